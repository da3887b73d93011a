-- Entries that are new, and not too many.
use Rattle.std.proofs.Common.{◌≡◌, ℕ, ◌+◌, ◌≤◌, Bool, true, false, not, ◌||◌, List, [], ◌∷◌, ◌++◌, map, eqb, refl, sym, ap, subst, ◌∙◌, append_assoc, arith, inl, inr}
use Rattle.std.specs.List.{sum_by}
use Rattle.std.proofs.lemmas.List.{append-nil, map-append}
use Rattle.std.proofs.lemmas.List.Sums.{sum_by_push, sum_by-append, sum_by-cons}
use Rattle.std.proofs.lemmas.Bool.{cases_Bool, and_parts}
use Rattle.hf_base.specs.Entries.{has_id, are_distinct}
use Rattle.hf_base.specs.EntryLaws.{EachGoes}

eqb-flip : (x y : ℕ) → eqb x y ≡ eqb y x
eqb-flip x y = grind arith

has-append : (x : ℕ) (xs ys : List ℕ) → has_id x (xs ++ ys) ≡ has_id x xs || has_id x ys
has-append x [] ys = refl
has-append x (y ∷ xs) ys = elim (cases_Bool (eqb y x)) [ inl t ↦ rw t refl | inr f ↦ rw (f, has-append x xs ys) refl ]

-- one that is there already
distinct-not : (y : ℕ) (xs zs : List ℕ) → has_id y xs ≡ true → are_distinct (xs ++ y ∷ zs) ≡ false
distinct-not y [] zs h = absurd cc
distinct-not y (x ∷ xs) zs h = elim (cases_Bool (eqb x y)) [
  | inl t ↦
      let there : has_id x (xs ++ y ∷ zs) ≡ true = rw (has-append x xs (y ∷ zs), eqb-flip y x, t) (elim (cases_Bool (has_id x xs)) [ inl a ↦ rw a refl | inr a ↦ rw a refl ]) in
      rw there refl
  | inr f ↦
      let more : are_distinct (xs ++ y ∷ zs) ≡ false = distinct-not y xs zs (sym (ap (λ (b : Bool). b || has_id y xs) f) ∙ h) in
      rw more (elim (cases_Bool (has_id x (xs ++ y ∷ zs))) [ inl a ↦ rw a refl | inr a ↦ rw a refl ])
]

-- one more, which is not there
distinct-push : (y : ℕ) (xs : List ℕ) → are_distinct xs ≡ true → has_id y xs ≡ false → are_distinct (xs ++ y ∷ []) ≡ true
distinct-push y [] d h = refl
distinct-push y (x ∷ xs) d h = elim (cases_Bool (eqb x y)) [
  | inl t ↦ absurd (let e : true ≡ false = sym (ap (λ (b : Bool). b || has_id y xs) t) ∙ h in cc)
  | inr f ↦
      let p = and_parts (not (has_id x xs)) (are_distinct xs) d in
      let more : are_distinct (xs ++ y ∷ []) ≡ true = distinct-push y xs p.1 (sym (ap (λ (b : Bool). b || has_id y xs) f) ∙ h) in
      let other : has_id x (xs ++ y ∷ []) ≡ has_id x xs = rw (has-append x xs (y ∷ []), eqb-flip y x, f) (elim (cases_Bool (has_id x xs)) [ inl a ↦ rw a refl | inr a ↦ rw a refl ]) in
      rw (other, more) (rw p.0 refl)
]

-- no earlier one has its id
abbrev pub IsNew : {A : Type 0} → (A → ℕ) → List A → A → Type 0
IsNew key earlier x = has_id (key x) (map key earlier) ≡ false

pub new_each : {A : Type 0} (key : A → ℕ) (earlier xs : List A) → are_distinct (map key (earlier ++ xs)) ≡ true → EachGoes (IsNew key) earlier xs
new_each key earlier [] d = tt
new_each {A = A} key earlier (x ∷ xs) d =
    let parts : map key (earlier ++ x ∷ xs) ≡ map key earlier ++ (key x ∷ map key xs) = map-append key earlier (x ∷ xs) in
    let new : has_id (key x) (map key earlier) ≡ false = elim (cases_Bool (has_id (key x) (map key earlier))) [
      | inl t ↦ absurd (let e : true ≡ false = sym d ∙ ap are_distinct parts ∙ distinct-not (key x) (map key earlier) (map key xs) t in cc)
      | inr f ↦ f
    ] in
    (new, new_each key (earlier ++ x ∷ []) xs (ap (λ (l : List A). are_distinct (map key l)) (append_assoc earlier (x ∷ []) xs) ∙ d))

pub each_new : {A : Type 0} (key : A → ℕ) (earlier xs : List A) → are_distinct (map key earlier) ≡ true → EachGoes (IsNew key) earlier xs → are_distinct (map key (earlier ++ xs)) ≡ true
each_new {A = A} key earlier [] d goes = ap (λ (l : List A). are_distinct (map key l)) (append-nil earlier) ∙ d
each_new {A = A} key earlier (x ∷ xs) d goes =
    let pushed : are_distinct (map key (earlier ++ x ∷ [])) ≡ true = ap are_distinct (map-append key earlier (x ∷ [])) ∙ distinct-push (key x) (map key earlier) d goes.0 in
    sym (ap (λ (l : List A). are_distinct (map key l)) (append_assoc earlier (x ∷ []) xs)) ∙ each_new key (earlier ++ x ∷ []) xs pushed goes.1

-- ---- rows within a limit

-- with this one, earlier ones are no more than so many
abbrev pub IsFew : {A : Type 0} → ℕ → (A → ℕ) → List A → A → Type 0
IsFew most len earlier x = sum_by (λ y. 1 + len y) earlier + 1 + len x ≤ most

pub few_each : {A : Type 0} (most : ℕ) (len : A → ℕ) (earlier xs : List A) → sum_by (λ y. 1 + len y) (earlier ++ xs) ≤ most → EachGoes (IsFew most len) earlier xs
few_each most len earlier [] h = tt
few_each {A = A} most len earlier (r ∷ rs) h =
    let all = sum_by-append (λ (y : A). 1 + len y) earlier (r ∷ rs) in
    let first = sum_by-cons (λ (y : A). 1 + len y) r rs in
    let more : sum_by (λ y. 1 + len y) ((earlier ++ r ∷ []) ++ rs) ≤ most = subst (λ (l : List A). sum_by (λ y. 1 + len y) l ≤ most) (sym (append_assoc earlier (r ∷ []) rs)) h in
    (omega (arith, h, all, first), few_each most len (earlier ++ r ∷ []) rs more)

pub each_few : {A : Type 0} (most : ℕ) (len : A → ℕ) (earlier xs : List A) → sum_by (λ y. 1 + len y) earlier ≤ most → EachGoes (IsFew most len) earlier xs → sum_by (λ y. 1 + len y) (earlier ++ xs) ≤ most
each_few {A = A} most len earlier [] h goes = subst (λ (l : List A). sum_by (λ y. 1 + len y) l ≤ most) (sym (append-nil earlier)) h
each_few {A = A} most len earlier (r ∷ rs) h goes =
    let pushed = sum_by_push (λ (y : A). 1 + len y) earlier r in
    let more = each_few most len (earlier ++ r ∷ []) rs (omega (arith, pushed, goes.0)) goes.1 in
    subst (λ (l : List A). sum_by (λ y. 1 + len y) l ≤ most) (append_assoc earlier (r ∷ []) rs) more

-- ---- two conditions at once

abbrev pub Both : {A : Type 0} → (List A → A → Type 0) → (List A → A → Type 0) → List A → A → Type 0
Both P Q earlier x = P earlier x × Q earlier x

pub each_both : {A : Type 0} (P Q : List A → A → Type 0) (earlier xs : List A) → EachGoes P earlier xs → EachGoes Q earlier xs → EachGoes (Both P Q) earlier xs
each_both P Q earlier [] p q = tt
each_both P Q earlier (x ∷ xs) p q = ((p.0, q.0), each_both P Q (earlier ++ x ∷ []) xs p.1 q.1)

pub both_first : {A : Type 0} (P Q : List A → A → Type 0) (earlier xs : List A) → EachGoes (Both P Q) earlier xs → EachGoes P earlier xs
both_first P Q earlier [] b = tt
both_first P Q earlier (x ∷ xs) b = (b.0.0, both_first P Q (earlier ++ x ∷ []) xs b.1)

pub both_second : {A : Type 0} (P Q : List A → A → Type 0) (earlier xs : List A) → EachGoes (Both P Q) earlier xs → EachGoes Q earlier xs
both_second P Q earlier [] b = tt
both_second P Q earlier (x ∷ xs) b = (b.0.1, both_second P Q (earlier ++ x ∷ []) xs b.1)
