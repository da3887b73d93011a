-- The first item with a fault, found from left to right.
use Rattle.std.proofs.Common.{◌≡◌, ℕ, zero, suc, ◌+◌, ◌<◌, ◌≤◌, Bool, true, false, List, [], ◌∷◌, length, take, get_or, refl, sym, ap, ◌∙◌, arith, Some, None, inl, inr}
use Rattle.std.proofs.lemmas.Bool.{cases_Bool}
use Rattle.std.specs.List.{find}
use Rattle.hf_base.specs.Located.{Located as Stated}
use Rattle.hf_base.specs.LocationFaults.{first_with}
use Rattle.hf_extent.specs.declared.items.Located.{Located}
use Rattle.hf_extent.specs.Seen.{item_seen, items_seen}

-- none of the first n items has the fault
pub record HasNone (has : Stated → Bool) (items : List Located) (n : ℕ) : Type 0 where
  pub none : find has (items_seen (take n items)) ≡ None

pub none_at_start : (has : Stated → Bool) (items : List Located) → HasNone has items 0
none_at_start has items = record { none = refl }

-- what begins with an item that fails
after : (has : Stated → Bool) (r : Located) (rs : List Located) → has (item_seen r) ≡ false → find has (items_seen (r ∷ rs)) ≡ find has (items_seen rs)
after has r rs fails = rw fails refl

no_first : (has : Stated → Bool) (r : Located) (rs : List Located) → find has (items_seen (r ∷ rs)) ≡ None
    → (has (item_seen r) ≡ false) × (find has (items_seen rs) ≡ None)
no_first has r rs none = elim (cases_Bool (has (item_seen r))) [
  | inl held ↦ (let here : find has (items_seen (r ∷ rs)) ≡ Some (item_seen r) = rw held refl in cc)
  | inr fails ↦ (fails, sym (after has r rs fails) ∙ none)
]

more : (has : Stated → Bool) (items : List Located) (i : ℕ) (x : Located) → find has (items_seen (take i items)) ≡ None → i < length items
    → x ≡ get_or items i x → has (item_seen x) ≡ false → find has (items_seen (take (i + 1) items)) ≡ None
more has [] i x none less is fails = absurd (omega arith)
more has (r ∷ rs) zero x none less is fails = let here : has (item_seen r) ≡ false = ap (λ (y : Located). has (item_seen y)) (sym is) ∙ fails in after has r [] here
more has (r ∷ rs) (suc i) x none less is fails =
    let parts = no_first has r (take i rs) none in
    let e : suc i + 1 ≡ suc (i + 1) = omega arith in
    rw e (after has r (take (i + 1) rs) parts.0 ∙ more has rs i x parts.1 (omega arith) is fails)

pub none_more : (has : Stated → Bool) (items : List Located) (i : ℕ) (x : Located) → HasNone has items i → i < length items → x ≡ get_or items i x
    → has (item_seen x) ≡ false → HasNone has items (i + 1)
none_more has items i x none less is fails = record { none = more has items i x none.none less is fails }

here : (has : Stated → Bool) (items : List Located) (i : ℕ) (x : Located) → find has (items_seen (take i items)) ≡ None → i < length items
    → x ≡ get_or items i x → has (item_seen x) ≡ true → find has (items_seen items) ≡ Some (item_seen x)
here has [] i x none less is held = absurd (omega arith)
here has (r ∷ rs) zero x none less is held =
    let first : has (item_seen r) ≡ true = ap (λ (y : Located). has (item_seen y)) (sym is) ∙ held in
    rw first (ap (λ (y : Located). Some (item_seen y)) (sym is))
here has (r ∷ rs) (suc i) x none less is held =
    let parts = no_first has r (take i rs) none in
    after has r rs parts.0 ∙ here has rs i x parts.1 (omega arith) is held

pub first_here : (has : Stated → Bool) (items : List Located) (i : ℕ) (x : Located) → HasNone has items i → i < length items → x ≡ get_or items i x
    → has (item_seen x) ≡ true → first_with has (items_seen items) ≡ Some x.id
first_here has items i x none less is held = rw (here has items i x none.none less is held) refl

whole : (items : List Located) (n : ℕ) → length items ≤ n → take n items ≡ items
whole [] zero all = refl
whole [] (suc n) all = refl
whole (r ∷ rs) zero all = absurd (omega arith)
whole (r ∷ rs) (suc n) all = ap (λ (l : List Located). r ∷ l) (whole rs n (omega arith))

pub first_nowhere : (has : Stated → Bool) (items : List Located) (n : ℕ) → HasNone has items n → length items ≤ n → first_with has (items_seen items) ≡ None
first_nowhere has items n none all =
    let none_of : find has (items_seen items) ≡ None = ap (λ (l : List Located). find has (items_seen l)) (sym (whole items n all)) ∙ none.none in
    rw none_of refl
