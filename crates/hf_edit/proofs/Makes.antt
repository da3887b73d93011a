-- What changes of a store make of it are the steps of the edits that give an item other properties, or add one.
use Rattle.std.proofs.Common.{◌≡◌, ℕ, ◌+◌, ◌<◌, ◌≤◌, Bool, true, false, ◌||◌, List, [], ◌∷◌, length, map, refl, sym, ap, ◌∙◌, subst, arith, cond, inl, inr, Some, None}
use Rattle.std.specs.Prelude.{◌==◌, nat_lt, slice_get}
use Rattle.std.proofs.lemmas.Bool.{cases_Bool, ltb-false}
use Rattle.std.proofs.lemmas.List.Sums.{sum_by-append, sum_by-cons}
use Rattle.hf_base.specs.declared.limits.TheConstants as limits
use Rattle.hf_store.specs.Changes.{added, with_props}
use Rattle.hf_store.specs.Room.{props_at}
use Rattle.hf_store.specs.Store.{Held, Item, ItemStore, ids_of}
use Rattle.hf_store.specs.Valid.{body_sum, Valid}
use Rattle.hf_store.proofs.Spots.{at_or, get_map, some_is}
use Rattle.hf_edit.specs.Additions.{greatest_id, next_id_of, with_next}
use Rattle.hf_edit.specs.Edits.{Crop, Edit, Mirror, Rotate, step, why}
use Rattle.hf_edit.specs.Left.{IsGoodEdit}
use Rattle.hf_edit.specs.Pictures.{cropped, is_outside, mirrored, picture_size_of, rotated}
use Rattle.hf_edit.specs.Seen.{changed_by, draft_of}
use Rattle.hf_edit.specs.declared.additions.Draft.{Draft}
use Rattle.hf_edit.specs.declared.additions.Draft.TheVariants.{Exif, Xmp, Thumb}
use Rattle.hf_edit.specs.declared.changing.Change.{Change}
use Rattle.hf_edit.proofs.Against.{it_is, reshaped_at}
use Rattle.hf_edit.proofs.Free.{is_free}
use Rattle.hf_edit.proofs.Steps.{steps_keep_validity}

-- a store that an edit makes is valid
pub valid_made : (s : ItemStore) (e : Edit) (t : ItemStore) → Valid s → IsGoodEdit e → why s e ≡ None → t ≡ step s e → Valid t
valid_made s e t valid good free is = subst Valid (sym is) (steps_keep_validity s e valid good free)

-- ---- other properties

neither : (a b : Bool) → (a || b) ≡ false → (a ≡ false) × (b ≡ false)
neither true b e = absurd cc
neither false b e = (refl, e)

pub few_quarters : (s : ItemStore) (id quarters : ℕ) → why s (Rotate id quarters) ≡ None → quarters < 4
few_quarters s id quarters free =
    omega (arith, ltb-false 3 quarters (neither (quarters == 0) (nat_lt 3 quarters) (is_free s (Rotate id quarters) free).turn).1)

pub an_axis : (s : ItemStore) (id axis : ℕ) → why s (Mirror id axis) ≡ None → axis < 2
an_axis s id axis free = omega (arith, ltb-false 1 axis (is_free s (Mirror id axis) free).axis)

module _ (s : ItemStore) (id k : ℕ) (valid : Valid s) (here : slice_get (ids_of s.items) k ≡ Some id) (i : Item) (at : slice_get s.items k ≡ Some i) where
  pub inside : (x y w h : ℕ) → why s (Crop id x y w h) ≡ None → is_outside x y w h (picture_size_of i) ≡ false
  inside x y w h free =
      sym (it_is s id k here i valid.ids_rise at (λ (j : Item). is_outside x y w h (picture_size_of j))) ∙ (is_free s (Crop id x y w h) free).inside

  -- a change of what the item has
  changed_at_place : (change : Change) (f : List Held → List Held) (hs : List Held) → hs ≡ i.props → changed_by change hs ≡ f hs
      → with_props k (changed_by change (props_at k s.items)) s ≡ with_props k (f i.props) s
  changed_at_place change f hs same is =
      let held : props_at k s.items ≡ i.props = at_or (map (λ (j : Item). j.props) s.items) k i.props [] (get_map (λ (j : Item). j.props) s.items k i at) in
      ap (λ (left : List Held). with_props k left s)
      (ap (changed_by change) held ∙ ap (changed_by change) (sym same) ∙ is ∙ ap f same)

  pub turned_at : (change : Change) (hs : List Held) (quarters : ℕ) → hs ≡ i.props → changed_by change hs ≡ rotated quarters hs
      → with_props k (changed_by change (props_at k s.items)) s ≡ step s (Rotate id quarters)
  turned_at change hs quarters same is =
      changed_at_place change (rotated quarters) hs same is ∙ reshaped_at s id k here i valid.ids_rise at (λ (j : Item). rotated quarters j.props)

  pub mirrored_at : (change : Change) (hs : List Held) (axis : ℕ) → hs ≡ i.props → changed_by change hs ≡ mirrored axis hs
      → with_props k (changed_by change (props_at k s.items)) s ≡ step s (Mirror id axis)
  mirrored_at change hs axis same is =
      changed_at_place change (mirrored axis) hs same is ∙ reshaped_at s id k here i valid.ids_rise at (λ (j : Item). mirrored axis j.props)

  pub cropped_at : (change : Change) (x y w h : ℕ) → changed_by change i.props ≡ cropped x y w h i
      → with_props k (changed_by change (props_at k s.items)) s ≡ step s (Crop id x y w h)
  cropped_at change x y w h is =
      changed_at_place change (λ hs. cropped x y w h i) i.props refl is ∙ reshaped_at s id k here i valid.ids_rise at (cropped x y w h)

-- ---- one more item

next_told : (s : ItemStore) (id : ℕ) → next_id_of s ≡ Some id → id ≡ greatest_id s + 1
unfolding next_id_of
next_told s id told =
    elim (cases_Bool (greatest_id s == 4294967295)) [
      | inl top ↦ absurd (let none : None ≡ Some id = sym (ap (λ (b : Bool). cond b None (Some (greatest_id s + 1))) top) ∙ told in cc)
      | inr below ↦ some_is (sym told ∙ ap (λ (b : Bool). cond b None (Some (greatest_id s + 1))) below)
    ]

pub added_next : (item : ℕ → Item) (s : ItemStore) (id : ℕ) (made : Item) → next_id_of s ≡ Some id → made ≡ item id → added made s ≡ with_next item s
added_next item s id made told is = ap (λ (i : Item). added i s) (is ∙ ap item (next_told s id told))

same_bytes : (d : Draft) (of a b : ℕ) → length (draft_of d of a).bytes ≡ length (draft_of d of b).bytes
same_bytes (Exif tiff) of a b = refl
same_bytes (Xmp text) of a b = refl
same_bytes (Thumb picture) of a b = refl

-- an item of a valid store has no more bytes than all of them may have
pub few_bytes : (s : ItemStore) (d : Draft) (of id : ℕ) → Valid (with_next (draft_of d of) s) → length (draft_of d of id).bytes ≤ limits.BODY
unfolding body_sum
few_bytes s d of id valid =
    let i = draft_of d of (greatest_id s + 1) in
    let count : Item → ℕ = λ j. length j.bytes in
    omega (arith, same_bytes d of id (greatest_id s + 1), sum_by-append count s.items (i ∷ []), sum_by-cons count i [], valid.body)
