-- The reasons against an edit, by what holds of the item that it names.
use Rattle.std.proofs.Common.{◌≡◌, ℕ, ◌<◌, Bool, false, not, refl, ap, ◌∙◌, sym, Option, Some, None}
use Rattle.std.specs.Prelude.{◌==◌, slice_get, option_map}
use Rattle.hf_base.specs.declared.four.FourCc.{FourCc}
use Rattle.hf_store.specs.Lists.{IsIn, RisesFrom}
use Rattle.hf_store.specs.Store.{Item, ItemStore, ids_of}
use Rattle.hf_store.specs.declared.reason.Reason.{Reason}
use Rattle.hf_store.specs.declared.reason.Reason.TheVariants.{NoItem, IsPrimary, Needed, NotImage, IsHidden, IsMinor, NoProperty, IsEssential}
use Rattle.hf_store.proofs.Spots.{id_here, some_is}
use Rattle.hf_deps.specs.Needs.{needed_by}
use Rattle.hf_edit.specs.Edits.{Edit, Remove, Primary, Hide, Show, Drop, named, is_absent, item_is, is_metadata, is_hidden, is_minor, has_kind, has_essential, when, ◌or_else◌, why}
use Rattle.hf_edit.proofs.Named.{is_there, is_nowhere, item_here}

-- ---- the first reason

pub why_none : (s : ItemStore) (e : Edit) → (IsIn (named e) (ids_of s.items) → ⊥) → why s e ≡ Some NoItem
why_none s e none = rw (is_nowhere s (named e) none) refl

-- ---- the item that is named stands at a place

module _ (s : ItemStore) (id k : ℕ) (here : slice_get (ids_of s.items) k ≡ Some id) where
  there : is_absent id s ≡ false
  there = is_there s id k here

  pub why_removal : why s (Remove id) ≡ (when (s.primary == id) IsPrimary or_else option_map (λ by. Needed by) (needed_by id s.items) or_else None)
  why_removal = rw there refl

  pub why_hiding : why s (Hide id) ≡ (when (s.primary == id) IsPrimary or_else None)
  why_hiding = rw there refl

  pub why_showing : why s (Show id) ≡ None
  why_showing = rw there refl

  module _ (i : Item) (rises : RisesFrom ◌<◌ 0 (ids_of s.items)) (at : slice_get s.items k ≡ Some i) where
    same_id : i.id ≡ id
    same_id = some_is (sym (id_here s.items k i at) ∙ here)

    it_is : (test : Item → Bool) → item_is test id s ≡ test i
    it_is test = ap (λ (n : ℕ). item_is test n s) (sym same_id) ∙ item_here test 0 k i s.items rises at

    pub why_primary : why s (Primary id) ≡ (when (is_metadata i) NotImage or_else when i.hidden IsHidden or_else when (is_minor i) IsMinor or_else None)
    why_primary =
        let told : Bool → Bool → Bool → Option Reason =
        λ metadata hidden minor. when metadata NotImage or_else when hidden IsHidden or_else when minor IsMinor or_else None
        in
        rw there
        (ap (λ b. told b (item_is is_hidden id s) (item_is is_minor id s)) (it_is is_metadata)
        ∙ ap (λ b. told (is_metadata i) b (item_is is_minor id s)) (it_is is_hidden)
        ∙ ap (λ b. told (is_metadata i) i.hidden b) (it_is is_minor))

    pub why_dropping : (kind : FourCc)
        → why s (Drop id kind) ≡ (when (not (has_kind kind i)) NoProperty or_else when (has_essential kind i) IsEssential or_else None)
    why_dropping kind =
        let told : Bool → Bool → Option Reason = λ none essential. when none NoProperty or_else when essential IsEssential or_else None in
        rw there
        (ap (λ b. told b (item_is (has_essential kind) id s)) (it_is (λ (j : Item). not (has_kind kind j)))
        ∙ ap (λ b. told (not (has_kind kind i)) b) (it_is (has_essential kind)))
