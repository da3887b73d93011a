-- The boxes of `iref` in the order in which a store keeps them: by items, and then by types.
use Rattle.std.specs.Prelude.{◌≡◌, ◌<◌, ◌≤◌, length, take, drop, ℕ, false, true, Bool, ◌&&◌, List, [], ◌∷◌, map, filter, ◌==◌, if◌then◌else◌}
use Rattle.std.specs.List.{AllByRecursion}
use Rattle.std.specs.Ordering.{nat_cmp, ordering_then, is_lt}
use Rattle.std.specs.declared.cmp.Ordering.{Ordering}
use Rattle.std.specs.Cmp.Lexicographic.{slice_cmp}
use Rattle.std.specs.List.Sorted.{IsSortedByKey}
use Rattle.hf_base.specs.declared.four.FourCc.{FourCc}
use Rattle.hf_base.specs.declared.kinds.TheConstants.{ILOC}
use Rattle.hf_base.specs.declared.loc.RefBox.{RefBox}
use Rattle.hf_box.specs.Walk.{is_kind}
use Rattle.hf_store.specs.Lists.{not_empty}
use Rattle.hf_store.specs.declared.item.RefList.{RefList}
use denote.Ref.{Bor}

-- the boxes that these lead to
abbrev pub seen : List (Bor RefBox) → List RefBox
seen boxes = map (λ (b : Bor RefBox). b.now) boxes

-- a box of this item and type
abbrev pub is_of : ℕ → FourCc → RefBox → Bool
is_of from kind b = (b.from == from) && is_kind kind b.kind

-- items, and then types
abbrev pub order : ℕ × FourCc → ℕ × FourCc → Ordering
order a b = ordering_then (nat_cmp a.0 b.0) (slice_cmp nat_cmp a.1.0 b.1.0)

abbrev pub key_of : RefBox → ℕ × FourCc
key_of b = (b.from, b.kind)

-- a box of a later item, or of that item and a later type
abbrev pub is_later : ℕ → FourCc → RefBox → Bool
is_later from kind b = is_lt (order (from, kind) (key_of b))

-- none comes before an earlier one
abbrev pub AreInOrder : List (Bor RefBox) → Type 0
AreInOrder boxes = IsSortedByKey (λ (b : Bor RefBox). key_of b.now) order boxes

-- the first one is of this item and type
abbrev pub BeginsWith : ℕ → FourCc → List RefBox → Type 0
BeginsWith from kind [] = ⊥
BeginsWith from kind (b ∷ bs) = is_of from kind b ≡ true

-- the first one is of another item, or there is none
abbrev pub BeginsElsewhere : ℕ → List RefBox → Type 0
BeginsElsewhere from [] = Unit {0}
BeginsElsewhere from (b ∷ bs) = (b.from == from) ≡ false

-- the list of a type, unless that is `iloc`, whose references say where bytes lie, or the list is empty
abbrev pub list_if_any : FourCc → List ℕ → List RefList
list_if_any kind to = if is_kind kind ILOC then [] else filter (λ (r : RefList). not_empty r.to) (record { kind = kind; to = to } ∷ [])

abbrev pub AreOf : ℕ → FourCc → List RefBox → Type 0
AreOf from kind bs = AllByRecursion (λ (b : RefBox). is_of from kind b ≡ true) bs

abbrev pub AreLater : ℕ → FourCc → List RefBox → Type 0
AreLater from kind bs = AllByRecursion (λ (b : RefBox). is_later from kind b ≡ true) bs

-- so many boxes, and some, are of this item and type, and those after them are later
pub record IsRun (from : ℕ) (kind : FourCc) (boxes : List (Bor RefBox)) (len : ℕ) : Type 0 where
  pub within : len ≤ length boxes
  pub some : 0 < len
  pub own : AreOf from kind (seen (take len boxes))
  pub later : AreLater from kind (seen (drop len boxes))
