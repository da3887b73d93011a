-- The reference boxes of a file (`iref` of ISO/IEC 14496-12), and what a store keeps of them.
use Rattle.std.specs.Prelude.{ℕ, ◌≡◌, ◌≢◌, ◌⊎◌, ◌<◌, Bool, ◌&&◌, List, [], ◌∷◌, ◌++◌, length, map, filter, ◌==◌, if◌then◌else◌}
use Rattle.std.specs.List.{AllByRecursion, flat_map, list_any}
use Rattle.hf_base.specs.declared.four.FourCc.{FourCc}
use Rattle.hf_box.specs.Head.{box}
use Rattle.hf_box.specs.Walk.{is_kind}
use Rattle.hf_links.specs.Iref.{reference_body, reference_box}
pub use Rattle.hf_base.specs.declared.loc.RefBox.{RefBox}
use Rattle.hf_store.specs.Lists.{IsIn, Rises}
use Rattle.hf_store.specs.Store.{RefList, Item, ItemStore, ids_of}
use Rattle.hf_box.specs.Literals.{four}
use Rattle.hf_store.specs.Layout.{all_boxes}
use Rattle.hf_store.specs.Valid.{IsBelow, Valid}

-- the ids in the boxes of this type from this item, of those that pass, in file order
abbrev pub joined : (ℕ → Bool) → FourCc → ℕ → List RefBox → List ℕ
joined keep kind from [] = []
joined keep kind from (b ∷ bs) =
    if (b.from == from) && is_kind kind b.kind then filter keep b.to ++ joined keep kind from bs
    else joined keep kind from bs

abbrev pub kinds_of : List RefList → List FourCc
kinds_of rs = map (λ (r : RefList). r.kind) rs

-- a list that is kept has all ids of its type, and some
pub record IsKept (keep : ℕ → Bool) (boxes : List RefBox) (from : ℕ) (r : RefList) : Type 0 where
  pub not_iloc : r.kind ≢ four "iloc"
  pub some : 0 < length r.to
  pub to : r.to ≡ joined keep r.kind from boxes

-- the lists that a store keeps for an item, of those ids that pass: by rising type, without `iloc` and empty lists
pub record KeepsRefs (keep : ℕ → Bool) (boxes : List RefBox) (from : ℕ) (refs : List RefList) : Type 0 where
  pub rise : Rises IsBelow (kinds_of refs)
  pub each : AllByRecursion (IsKept keep boxes from) refs
  pub all : AllByRecursion (λ (b : RefBox). b.from ≡ from → (b.kind ≡ four "iloc") ⊎ ((joined keep b.kind from boxes ≡ []) ⊎ IsIn b.kind (kinds_of refs))) boxes

-- the id is one of an item
abbrev pub is_id : List Item → ℕ → Bool
is_id is id = list_any (λ x. x == id) (ids_of is)

-- the boxes that are written: one for each list of each item, in order
abbrev pub BoxesAreWritten : Type 0
BoxesAreWritten = (wide : Bool) (is : List Item)
    → flat_map (λ (i : Item). flat_map (λ (r : RefList). box r.kind (reference_body wide i.id r.to)) i.refs) is
    ≡ flat_map (reference_box wide) (all_boxes is)

-- they give each item its lists back
abbrev pub ReferencesComeBack : Type 0
ReferencesComeBack = (s : ItemStore) (i : Item) → Valid s → IsIn i s.items → KeepsRefs (is_id s.items) (all_boxes s.items) i.id i.refs

-- and boxes give an item one answer at most
abbrev pub ReferencesOnce : Type 0
ReferencesOnce = (keep : ℕ → Bool) (boxes : List RefBox) (from : ℕ) (some others : List RefList) → KeepsRefs keep boxes from some → KeepsRefs keep boxes from others → some ≡ others
