-- What is left of items of which one is taken out.
use Rattle.std.proofs.Common.{sym, ◌∙◌, ◌≡◌, ℕ, zero, suc, ◌<◌, ◌≤◌, Bool, true, false, not, List, [], ◌∷◌, length, filter, refl, ap, arith, inl, inr, eqb-true, ◌+◌, length-append, drop, Some}
use Rattle.std.specs.Prelude.{◌==◌}
use Rattle.std.specs.List.{remove}
use Rattle.std.proofs.lemmas.Bool.{cases_Bool, eq-eqb}
use Rattle.std.specs.List.{flat_map}
use Rattle.std.specs.Prelude.{slice_get}
use Rattle.std.proofs.lemmas.List.{drop_all}
use Rattle.std.proofs.lemmas.List.Concat.{length-flat_map}
use Rattle.hf_store.specs.Valid.{body_sum}
use Rattle.hf_store.proofs.Spots.{drop_here}
use Rattle.hf_store.specs.Lists.{RisesFrom}
use Rattle.hf_store.specs.Store.{Item, ids_of}
use Rattle.hf_store.specs.Changes.{id_at, is_other}

not-not : (b : Bool) → not b ≡ false → b ≡ true
not-not true e = refl
not-not false e = absurd cc

-- ---- an item is taken out at a place

abbrev pub others : ℕ → List Item → List Item
others id is = filter (λ (i : Item). is_other id i.id) is

others_of_greater : (id low : ℕ) (is : List Item) → id ≤ low → RisesFrom ◌<◌ low (ids_of is) → others id is ≡ is
others_of_greater id low [] le rises = refl
others_of_greater id low (i ∷ is) le rises =
    elim (cases_Bool (is_other id i.id)) [
      | inl stays ↦ rw stays (ap (λ (js : List Item). i ∷ js) (others_of_greater id i.id is (omega (arith, le, rises.0)) rises.1))
      | inr goes ↦ absurd (let same = eqb-true i.id id (not-not (i.id == id) goes) in omega (arith, same, le, rises.0))
    ]

self_is_other : (n : ℕ) → not (n == n) ≡ true → ⊥
self_is_other n e = let same = eq-eqb n n refl in let no : not (n == n) ≡ false = ap not same in cc

id_later : (low : ℕ) (is : List Item) (k : ℕ) → RisesFrom ◌<◌ low (ids_of is) → k < length is → low < id_at k is
id_later low [] k rises within = absurd (omega arith)
id_later low (i ∷ is) zero rises within = rises.0
id_later low (i ∷ is) (suc k) rises within = omega (arith, rises.0, id_later i.id is k rises.1 (omega arith))

-- among rising ids, the others are those that are left when the item at the place is taken out
pub others-removed : (low : ℕ) (is : List Item) (k : ℕ) → RisesFrom ◌<◌ low (ids_of is) → k < length is → others (id_at k is) is ≡ remove is k
others-removed low [] k rises within = absurd (omega arith)
others-removed low (i ∷ is) zero rises within =
    elim (cases_Bool (is_other i.id i.id)) [
      | inl stays ↦ absurd (self_is_other i.id (stays))
      | inr goes ↦ rw goes (others_of_greater i.id i.id is (omega arith) rises.1)
    ]
others-removed low (i ∷ is) (suc k) rises within =
    let later = id_later i.id is k rises.1 (omega arith) in
    elim (cases_Bool (is_other (id_at k is) i.id)) [
      | inl stays ↦ rw stays (ap (λ (js : List Item). i ∷ js) (others-removed i.id is k rises.1 (omega arith)))
      | inr goes ↦ absurd (let same = eqb-true i.id (id_at k is) (not-not (i.id == id_at k is) goes) in omega (arith, same, later))
    ]

-- ---- the bytes of items

body_sum-bytes : (is : List Item) → body_sum is ≡ length (flat_map (λ (i : Item). i.bytes) is)
unfolding body_sum
body_sum-bytes is = sym (length-flat_map (λ (i : Item). i.bytes) is)

pub body_sum-cons : (i : Item) (is : List Item) → body_sum (i ∷ is) ≡ length i.bytes + body_sum is
body_sum-cons i is = omega (arith, body_sum-bytes (i ∷ is), body_sum-bytes is, length-append i.bytes (flat_map (λ (j : Item). j.bytes) is))

pub body_sum-here : (is : List Item) (k : ℕ) (i : Item) → slice_get is k ≡ Some i → body_sum (drop k is) ≡ length i.bytes + body_sum (drop (k + 1) is)
body_sum-here is k i e = ap body_sum (drop_here is k i e) ∙ body_sum-cons i (drop (k + 1) is)

pub body_sum-end : (is : List Item) (k : ℕ) → length is ≤ k → body_sum (drop k is) ≡ 0
unfolding body_sum
body_sum-end is k h = ap body_sum (drop_all k is h)
