-- Tests, lists of what passes one, and lists that are joined.
use Rattle.std.proofs.Common.{◌≡◌, Bool, true, false, List, [], ◌∷◌, refl, sym, ap, subst, ◌∙◌, inl, inr, ℕ, ◌<◌, not, length, arith}
use Rattle.std.specs.List.{filter, flat_map, list_any}
use Rattle.std.proofs.lemmas.Bool.{cases_Bool}
use Rattle.std.proofs.lemmas.List.Concat.{flat_map-cons}
use Rattle.hf_base.specs.Members.{IsIn}
use Rattle.hf_store.specs.Lists.{not_empty}
use Rattle.hf_order.proofs.Members.{in_front, in_back, in_joined}

-- ---- tests

pub not_true : (b : Bool) → not b ≡ true → b ≡ false
not_true true e = absurd cc
not_true false e = refl

pub not_false : (b : Bool) → not b ≡ false → b ≡ true
not_false true e = refl
not_false false e = absurd cc

pub some_length : (xs : List ℕ) → not_empty xs ≡ true → 0 < length xs
some_length [] t = absurd cc
some_length (x ∷ xs) t = omega arith

pub passes : {A : Type 0} (test : A → Bool) (xs : List A) (x : A) → IsIn x xs → test x ≡ true → IsIn x (filter test xs)
passes test [] x h t = absurd h
passes {A = A} test (y ∷ ys) x h t = elim (cases_Bool (test y)) [
  | inl on ↦
      let whole : filter test (y ∷ ys) ≡ y ∷ filter test ys = rw on refl in
      let kept : IsIn x (y ∷ filter test ys) = elim h [ inl e ↦ inl e | inr k ↦ inr (passes test ys x k t) ] in
      subst (λ (l : List A). IsIn x l) (sym whole) kept
  | inr off ↦
      let rest : filter test (y ∷ ys) ≡ filter test ys = rw off refl in
      let kept : IsIn x (filter test ys) = elim h [
        | inl e ↦ absurd (let both : true ≡ false = sym t ∙ sym (ap test e) ∙ off in cc)
        | inr k ↦ passes test ys x k t
      ] in
      subst (λ (l : List A). IsIn x l) (sym rest) kept
]

pub passed : {A : Type 0} (test : A → Bool) (xs : List A) (x : A) → IsIn x (filter test xs) → test x ≡ true
passed test [] x h = absurd h
passed {A = A} test (y ∷ ys) x h = elim (cases_Bool (test y)) [
  | inl on ↦
      let whole : filter test (y ∷ ys) ≡ y ∷ filter test ys = rw on refl in
      let kept : IsIn x (y ∷ filter test ys) = subst (λ (l : List A). IsIn x l) whole h in
      elim kept [ inl e ↦ sym (ap test e) ∙ on | inr k ↦ passed test ys x k ]
  | inr off ↦
      let rest : filter test (y ∷ ys) ≡ filter test ys = rw off refl in
      passed test ys x (subst (λ (l : List A). IsIn x l) rest h)
]

pub any_none : {A : Type 0} (test : A → Bool) (xs : List A) → ((x : A) → IsIn x xs → test x ≡ false) → list_any test xs ≡ false
any_none test [] each = refl
any_none test (x ∷ xs) each = let here = each x (inl refl) in rw here (any_none test xs (λ y h. each y (inr h)))

-- ---- members of joined lists

pub in_flat : {A B : Type 0} (f : A → List B) (xs : List A) (x : A) (y : B) → IsIn x xs → IsIn y (f x) → IsIn y (flat_map f xs)
in_flat f [] x y h k = absurd h
in_flat {B = B} f (z ∷ zs) x y (inl e) k = subst (λ (l : List B). IsIn y l) (sym (flat_map-cons f z zs)) (in_front y (f z) (flat_map f zs) (subst (λ w. IsIn y (f w)) (sym e) k))
in_flat {B = B} f (z ∷ zs) x y (inr h) k = subst (λ (l : List B). IsIn y l) (sym (flat_map-cons f z zs)) (in_back y (f z) (flat_map f zs) (in_flat f zs x y h k))

pub from_flat : {A B : Type 0} (f : A → List B) (xs : List A) (y : B) → IsIn y (flat_map f xs) → (x : A) × IsIn x xs × IsIn y (f x)
from_flat f [] y h = absurd h
from_flat {B = B} f (z ∷ zs) y h = elim (in_joined y (f z) (flat_map f zs) (subst (λ (l : List B). IsIn y l) (flat_map-cons f z zs) h)) [
  | inl here ↦ (z, inl refl, here)
  | inr there ↦ let r = from_flat f zs y there in (r.0, inr r.1, r.2)
]
