-- Members of lists.
use Rattle.std.proofs.Common.{◌≡◌, ℕ, zero, suc, ◌≤◌, ◌<◌, Bool, true, false, ◌||◌, eqb, List, [], ◌∷◌, ◌++◌, length, take, drop, get_or, map, refl, sym, ap, subst, ◌∙◌, arith, inl, inr, ◌⊎◌}
use Rattle.std.specs.List.{AllByRecursion, All, filter}
use Rattle.std.specs.List.Sorted.{IsPermutation}
use Rattle.std.proofs.lemmas.Bool.{cases_Bool, cases_lt, eqb-true, eq-eqb}
use Rattle.std.proofs.lemmas.List.{take-append-drop, take-take, take-append-le, take_at, get_or_append_left, get_or_push, length_push}
use Rattle.std.proofs.lemmas.List.Elements.{All-from_recursion, recursion_from_All}
use Rattle.std.proofs.lemmas.List.Sorted.{IsPermutation-sym, All-permutation}
use Rattle.hf_base.specs.Entries.{has_id}
use Rattle.hf_base.specs.Members.{IsIn}
use Rattle.hf_order.specs.Order.{AreWithin}

pub in_all : {A : Type 0} (P : A → Type 0) (xs : List A) → AllByRecursion P xs → (x : A) → IsIn x xs → P x
in_all P [] all x h = absurd h
in_all P (y ∷ ys) all x (inl e) = subst P e all.0
in_all P (y ∷ ys) all x (inr h) = in_all P ys all.1 x h

pub all_from : {A : Type 0} (P : A → Type 0) (xs : List A) → ((x : A) → IsIn x xs → P x) → AllByRecursion P xs
all_from P [] f = tt
all_from P (y ∷ ys) f = (f y (inl refl), all_from P ys (λ x h. f x (inr h)))

pub in_permutation : {A : Type 0} (xs ys : List A) → IsPermutation xs ys → (x : A) → IsIn x xs → IsIn x ys
in_permutation {A = A} xs ys p x h =
    let all : All (λ (y : A). IsIn y ys) ys = All-from_recursion (λ (y : A). IsIn y ys) ys (all_from (λ (y : A). IsIn y ys) ys (λ y k. k)) in
    let back : All (λ (y : A). IsIn y ys) xs = All-permutation (λ (y : A). IsIn y ys) ys xs (IsPermutation-sym xs ys p) all in
    in_all (λ (y : A). IsIn y ys) xs (recursion_from_All (λ (y : A). IsIn y ys) xs back) x h

pub in_map : {A B : Type 0} (f : A → B) (xs : List A) (x : A) → IsIn x xs → IsIn (f x) (map f xs)
in_map f [] x h = absurd h
in_map f (y ∷ ys) x (inl e) = inl (ap f e)
in_map f (y ∷ ys) x (inr h) = inr (in_map f ys x h)

pub from_map : {A B : Type 0} (f : A → B) (xs : List A) (b : B) → IsIn b (map f xs) → (x : A) × IsIn x xs × (f x ≡ b)
from_map f [] b h = absurd h
from_map f (y ∷ ys) b (inl e) = (y, inl refl, e)
from_map f (y ∷ ys) b (inr h) = let p = from_map f ys b h in (p.0, inr p.1, p.2)

pub in_filter : {A : Type 0} (test : A → Bool) (xs : List A) (x : A) → IsIn x (filter test xs) → IsIn x xs
in_filter test [] x h = absurd h
in_filter {A = A} test (y ∷ ys) x h = elim (cases_Bool (test y)) [
  | inl t ↦
      let whole : filter test (y ∷ ys) ≡ y ∷ filter test ys = rw t refl in
      let kept : IsIn x (y ∷ filter test ys) = subst (λ (l : List A). IsIn x l) whole h in
      elim kept [ inl e ↦ inl e | inr k ↦ inr (in_filter test ys x k) ]
  | inr f ↦
      let rest : filter test (y ∷ ys) ≡ filter test ys = rw f refl in
      inr (in_filter test ys x (subst (λ (l : List A). IsIn x l) rest h))
]

pub all_push : {A : Type 0} (P : A → Type 0) (xs : List A) (x : A) → AllByRecursion P xs → P x → AllByRecursion P (xs ++ x ∷ [])
all_push P [] x all h = (h, tt)
all_push P (y ∷ ys) x all h = (all.0, all_push P ys x all.1 h)

pub at_in : {A : Type 0} (xs : List A) (k : ℕ) (d : A) → k < length xs → IsIn (get_or xs k d) xs
at_in [] k d less = absurd (omega arith)
at_in (x ∷ xs) zero d less = inl refl
at_in (x ∷ xs) (suc k) d less = inr (at_in xs k d (omega arith))

-- a pair of a graph, by its place
pub pair_within : (count : ℕ) (pairs : List (ℕ × ℕ)) (i : ℕ) (d : ℕ × ℕ) → AreWithin count pairs → i < length pairs → ((get_or pairs i d).0 < count) × ((get_or pairs i d).1 < count)
pair_within count pairs i d within less = in_all (λ (pair : ℕ × ℕ). (pair.0 < count) × (pair.1 < count)) pairs within (get_or pairs i d) (at_in pairs i d less)

-- ---- joined lists and front parts

pub in_front : {A : Type 0} (x : A) (xs ys : List A) → IsIn x xs → IsIn x (xs ++ ys)
in_front x [] ys h = absurd h
in_front x (y ∷ xs) ys (inl e) = inl e
in_front x (y ∷ xs) ys (inr h) = inr (in_front x xs ys h)

pub in_back : {A : Type 0} (x : A) (xs ys : List A) → IsIn x ys → IsIn x (xs ++ ys)
in_back x [] ys h = h
in_back x (y ∷ xs) ys h = inr (in_back x xs ys h)

pub in_joined : {A : Type 0} (x : A) (xs ys : List A) → IsIn x (xs ++ ys) → IsIn x xs ⊎ IsIn x ys
in_joined x [] ys h = inr h
in_joined x (y ∷ xs) ys (inl e) = inl (inl e)
in_joined x (y ∷ xs) ys (inr h) = elim (in_joined x xs ys h) [ inl k ↦ inl (inr k) | inr k ↦ inr k ]

pub in_take : {A : Type 0} (x : A) (k : ℕ) (xs : List A) → IsIn x (take k xs) → IsIn x xs
in_take {A = A} x k xs h = subst (λ (l : List A). IsIn x l) (take-append-drop k xs) (in_front x (take k xs) (drop k xs) h)

pub in_longer : {A : Type 0} (x : A) (j k : ℕ) (xs : List A) → j ≤ k → IsIn x (take j xs) → IsIn x (take k xs)
in_longer {A = A} x j k xs le h = in_take x j (take k xs) (subst (λ (l : List A). IsIn x l) (sym (take-take j k xs le)) h)

pub in_at : (x : ℕ) (xs : List ℕ) → IsIn x xs → (k : ℕ) × (k < length xs) × (get_or xs k 0 ≡ x)
in_at x [] h = absurd h
in_at x (y ∷ ys) (inl e) = (0, (omega arith), e)
in_at x (y ∷ ys) (inr h) = let p = in_at x ys h in (suc p.0, (let less : p.0 < length ys = p.1 in omega arith), p.2)

-- what holds of each element and those before it, with one more at the end
pub each_push : (P : ℕ → List ℕ → Type 0) (xs : List ℕ) (y : ℕ) → ((k : ℕ) → k < length xs → P (get_or xs k 0) (take k xs)) → P y xs → (k : ℕ) → k < length (xs ++ y ∷ []) → P (get_or (xs ++ y ∷ []) k 0) (take k (xs ++ y ∷ []))
each_push P xs y all last k h = elim (cases_lt k (length xs)) [
  | inl lt ↦
      let le : k ≤ length xs = omega arith in
      subst (λ (n : ℕ). P n (take k (xs ++ y ∷ []))) (sym (get_or_append_left xs (y ∷ []) 0 k lt)) (subst (λ (l : List ℕ). P (get_or xs k 0) l) (sym (take-append-le k xs (y ∷ []) le)) (all k lt))
  | inr ge ↦
      let e : length xs ≡ k = omega (arith, length_push xs y) in
      subst (λ (n : ℕ). P n (take k (xs ++ y ∷ []))) (sym (get_or_push xs y 0 k e)) (subst (λ (l : List ℕ). P y l) (sym (take_at xs (y ∷ []) k e)) last)
]

-- ---- tests

pub has_in : (x : ℕ) (xs : List ℕ) → IsIn x xs → has_id x xs ≡ true
has_in x [] h = absurd h
has_in x (y ∷ ys) (inl e) = let t = eq-eqb y x e in rw t refl
has_in x (y ∷ ys) (inr h) = let t = has_in x ys h in elim (cases_Bool (eqb y x)) [ inl a ↦ rw a refl | inr a ↦ rw (a, t) refl ]

pub in_has : (x : ℕ) (xs : List ℕ) → has_id x xs ≡ true → IsIn x xs
in_has x [] h = absurd cc
in_has x (y ∷ ys) h = elim (cases_Bool (eqb y x)) [
  | inl t ↦ inl (eqb-true y x t)
  | inr f ↦ inr (in_has x ys (sym (ap (λ (b : Bool). b || has_id x ys) f) ∙ h))
]

pub has_not : (x : ℕ) (xs : List ℕ) → ¬ IsIn x xs → has_id x xs ≡ false
has_not x xs out = elim (cases_Bool (has_id x xs)) [ inl t ↦ absurd (out (in_has x xs t)) | inr f ↦ f ]

pub not_has : (x : ℕ) (xs : List ℕ) → has_id x xs ≡ false → ¬ IsIn x xs
not_has x xs f h = let t = has_in x xs h in let e : true ≡ false = sym t ∙ f in absurd cc

pub decided : (x : ℕ) (xs : List ℕ) → IsIn x xs ⊎ (¬ IsIn x xs)
decided x xs = elim (cases_Bool (has_id x xs)) [ inl t ↦ inl (in_has x xs t) | inr f ↦ inr (not_has x xs f) ]

pub has-append : (x : ℕ) (xs ys : List ℕ) → has_id x (xs ++ ys) ≡ has_id x xs || has_id x ys
has-append x [] ys = refl
has-append x (y ∷ xs) ys = elim (cases_Bool (eqb y x)) [ inl t ↦ rw t refl | inr f ↦ rw (f, has-append x xs ys) refl ]
