-- A sorted list whose keys are distinct is the one list of its members by rising keys.
use Rattle.std.proofs.Common.{◌≡◌, ℕ, suc, ◌≤◌, ◌<◌, true, false, not, eqb, List, [], ◌∷◌, map, refl, sym, ap, subst, ◌∙◌, arith, inl, inr}
use Rattle.std.specs.Cmp.{nat_eq_equiv}
use Rattle.std.specs.List.{AllByRecursion, IsDistinct}
use Rattle.std.specs.List.Sorted.{IsPermutation, IsNonDecreasingBy}
use Rattle.std.proofs.lemmas.Bool.{and_parts, or_parts, eqb-false}
use Rattle.std.proofs.lemmas.List.Sorted.{IsPermutation-sym, IsPermutation-map}
use Rattle.std.proofs.lemmas.Map.Keys.{IsDistinct-IsPermutation, IsDistinct-cons, IsDistinct-head, IsDistinct-tail}
use Rattle.std.proofs.lemmas.Simd.{map-map}
use Rattle.std.proofs.lemmas.Map.Made.{IsDistinct-from_count}
use Rattle.hf_base.specs.Entries.{has_id, are_distinct}
use Rattle.hf_base.specs.Members.{IsIn, RisesFrom, Rises}
use Rattle.hf_order.proofs.Members.{in_permutation}
use Rattle.hf_read.specs.Rising.{by_rising}
use Rattle.hf_read.proofs.Filters.{not_true}
use Rattle.hf_read.proofs.RisingLaws.{from_rising, in_rising, rising_rises}

-- ---- two lists that rise and have the same members

above : {A : Type 0} (key : A → ℕ) (low : ℕ) (xs : List A) (z : A) → RisesFrom ◌<◌ low (map key xs) → IsIn z xs → low < key z
above key low [] z up h = absurd h
above {A = A} key low (x ∷ xs) z up (inl e) = subst (λ (a : A). low < key a) e up.0
above key low (x ∷ xs) z up (inr h) = let next = above key (key x) xs z up.1 h in let first : low < key x = up.0 in omega arith

tail_rises : {A : Type 0} (key : A → ℕ) (x : A) (xs : List A) → Rises ◌<◌ (map key (x ∷ xs)) → Rises ◌<◌ (map key xs)
tail_rises key x [] up = tt
tail_rises key x (y ∷ ys) up = up.1

same_first : {A : Type 0} (key : A → ℕ) (x y : A) (xs ys : List A) → RisesFrom ◌<◌ (key x) (map key xs) → RisesFrom ◌<◌ (key y) (map key ys)
    → IsIn x (y ∷ ys) → IsIn y (x ∷ xs) → x ≡ y
same_first key x y xs ys xup yup (inl e) k = sym e
same_first key x y xs ys xup yup (inr h) (inl e) = e
same_first key x y xs ys xup yup (inr h) (inr k) = absurd (let a = above key (key y) ys x yup h in let b = above key (key x) xs y xup k in omega arith)

-- what is behind the first of one list is behind the first of the other
behind : {A : Type 0} (key : A → ℕ) (x : A) (xs ys : List A) → RisesFrom ◌<◌ (key x) (map key xs)
    → ((z : A) → IsIn z (x ∷ xs) → IsIn z (x ∷ ys)) → (z : A) → IsIn z xs → IsIn z ys
behind key x xs ys up into z h = elim (into z (inr h)) [
  | inl e ↦ absurd (let over = above key (key x) xs z up h in let same : key x ≡ key z = ap key e in omega arith)
  | inr k ↦ k
]

pub one_rising : {A : Type 0} (key : A → ℕ) (xs ys : List A) → Rises ◌<◌ (map key xs) → Rises ◌<◌ (map key ys)
    → ((z : A) → IsIn z xs → IsIn z ys) → ((z : A) → IsIn z ys → IsIn z xs) → xs ≡ ys
one_rising key [] [] xup yup into from = refl
one_rising key [] (y ∷ ys) xup yup into from = absurd (from y (inl refl))
one_rising key (x ∷ xs) [] xup yup into from = absurd (into x (inl refl))
one_rising {A = A} key (x ∷ xs) (y ∷ ys) xup yup into from =
    let first : x ≡ y = same_first key x y xs ys xup yup (into x (inl refl)) (from y (inl refl)) in
    let yup' : RisesFrom ◌<◌ (key x) (map key ys) = subst (λ (a : A). RisesFrom ◌<◌ (key a) (map key ys)) (sym first) yup in
    let into' : (z : A) → IsIn z (x ∷ xs) → IsIn z (x ∷ ys) = λ z h. subst (λ (a : A). IsIn z (a ∷ ys)) (sym first) (into z h) in
    let from' : (z : A) → IsIn z (x ∷ ys) → IsIn z (x ∷ xs) = λ z h. from z (subst (λ (a : A). IsIn z (a ∷ ys)) first h) in
    let rest = one_rising key xs ys (tail_rises key x xs xup) (tail_rises key y ys yup) (behind key x xs ys xup into') (behind key x ys xs yup' from') in
    ap (λ (a : A). a ∷ xs) first ∙ ap (λ (l : List A). y ∷ l) rest

-- ---- a list that was sorted

rise_on : {A : Type 0} (key : A → ℕ) (x : A) (xs : List A) → IsNonDecreasingBy key (x ∷ xs) → IsDistinct eqb (map key (x ∷ xs)) → RisesFrom ◌<◌ (key x) (map key xs)
rise_on key x [] up distinct = tt
rise_on key x (y ∷ ys) up distinct =
    let le : key x ≤ key y = up 0 1 x (omega arith) (omega arith) in
    let ne = eqb-false (key x) (key y) (IsDistinct-head eqb (key x) (map key (y ∷ ys)) distinct).0 in
    let below : key x < key y = grind (arith, le, ne) in
    (below, rise_on key y ys (λ i j d h k. up (suc i) (suc j) d (omega arith) (omega arith)) (IsDistinct-tail eqb (key x) (map key (y ∷ ys)) distinct))

rise : {A : Type 0} (key : A → ℕ) (ys : List A) → IsNonDecreasingBy key ys → IsDistinct eqb (map key ys) → Rises ◌<◌ (map key ys)
rise key [] up distinct = tt
rise key (y ∷ ys) up distinct = rise_on key y ys up distinct

eqb-flip : (x y : ℕ) → eqb x y ≡ eqb y x
eqb-flip x y = grind arith

distinct_of : (xs : List ℕ) → are_distinct xs ≡ true → IsDistinct eqb xs
distinct_of [] h = IsDistinct-from_count nat_eq_equiv [] refl
distinct_of (x ∷ xs) h =
    let p = and_parts (not (has_id x xs)) (are_distinct xs) h in
    IsDistinct-cons eqb x xs (none_of x xs (not_true (has_id x xs) p.0)) (distinct_of xs p.1)
  where
    none_of : (x : ℕ) (ys : List ℕ) → has_id x ys ≡ false → AllByRecursion (λ (y : ℕ). eqb x y ≡ false) ys
    none_of x [] h = tt
    none_of x (y ∷ ys) h = let p = or_parts (eqb y x) (has_id x ys) h in (eqb-flip x y ∙ p.0, none_of x ys p.1)

rises_is : {A : Type 0} (key : A → ℕ) (xs ys : List A) → are_distinct (map key xs) ≡ true → IsPermutation xs ys → Rises ◌<◌ (map key ys) → ys ≡ by_rising key xs
rises_is key xs ys distinct moved up =
    one_rising key ys (by_rising key xs) up (rising_rises key xs distinct)
    (λ z h. in_rising key xs z (in_permutation ys xs (IsPermutation-sym xs ys moved) z h))
    (λ z h. in_permutation xs ys moved z (from_rising key xs z h))

still_distinct : {A : Type 0} (key : A → ℕ) (xs ys : List A) → are_distinct (map key xs) ≡ true → IsPermutation xs ys → IsDistinct eqb (map key ys)
still_distinct key xs ys distinct moved =
    IsDistinct-IsPermutation eqb eqb-flip (map key xs) (map key ys) (IsPermutation-map key xs ys moved) (distinct_of (map key xs) distinct)

pub sorted_is : {A : Type 0} (key : A → ℕ) (xs ys : List A) → are_distinct (map key xs) ≡ true → IsPermutation xs ys → IsNonDecreasingBy key ys → ys ≡ by_rising key xs
sorted_is key xs ys distinct moved up = rises_is key xs ys distinct moved (rise key ys up (still_distinct key xs ys distinct moved))

-- the same of what the elements stand for
pub sorted_seen : {X A : Type 0} (view : X → A) (key : A → ℕ) (xs ys : List X) → are_distinct (map key (map view xs)) ≡ true
    → IsPermutation xs ys → IsNonDecreasingBy (λ (x : X). key (view x)) ys
    → map view ys ≡ by_rising key (map view xs)
sorted_seen {X = X} view key xs ys distinct moved up =
    let key' : X → ℕ = λ x. key (view x) in
    let distinct' : are_distinct (map key' xs) ≡ true = sym (ap are_distinct (map-map key view xs)) ∙ distinct in
    let rises : Rises ◌<◌ (map key' ys) = rise key' ys up (still_distinct key' xs ys distinct' moved) in
    rises_is key (map view xs) (map view ys) distinct (IsPermutation-map view xs ys moved) (subst (λ (ids : List ℕ). Rises ◌<◌ ids) (sym (map-map key view ys)) rises)
