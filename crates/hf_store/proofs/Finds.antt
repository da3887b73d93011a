-- What a test finds is there.
use Rattle.std.proofs.Common.{◌≡◌, ◌<◌, ℕ, Bool, true, false, ◌||◌, List, [], ◌∷◌, length, refl, ap, arith, subst, eqb-true, inl, inr}
use Rattle.std.specs.Prelude.{◌==◌}
use Rattle.std.specs.List.{list_any, list_all, AllByRecursion}
use Rattle.std.proofs.lemmas.Bool.{cases_Bool, and_parts, eq-eqb}
use Rattle.hf_store.specs.Layout.{has_bytes}
use Rattle.hf_store.specs.Lists.{IsIn}

pub found : (x : ℕ) (xs : List ℕ) → list_any (λ y. y == x) xs ≡ true → IsIn x xs
found x [] e = absurd cc
found x (y ∷ ys) e =
    elim (cases_Bool (y == x)) [
      | inl here ↦ inl (eqb-true y x here)
      | inr not_here ↦ inr (found x ys (subst (λ (b : Bool). (b || list_any (λ z. z == x) ys) ≡ true) not_here e))
    ]

pub finds : (x : ℕ) (xs : List ℕ) → IsIn x xs → list_any (λ y. y == x) xs ≡ true
finds x [] h = absurd h
finds x (y ∷ ys) (inl e) = ap (λ b. b || list_any (λ z. z == x) ys) (eq-eqb y x e)
finds x (y ∷ ys) (inr h) = elim (y == x) as (λ b. (b || list_any (λ z. z == x) ys) ≡ true) [ true ↦ refl | false ↦ finds x ys h ]

pub all_found : (ids xs : List ℕ) → list_all (λ x. list_any (λ y. y == x) ids) xs ≡ true → AllByRecursion (λ x. IsIn x ids) xs
all_found ids [] e = tt
all_found ids (x ∷ xs) e =
    let parts = and_parts _ _ e in
    (found x ids parts.0, all_found ids xs parts.1)

-- bytes that are some, and bytes that are none
pub some_has : (bytes : List ℕ) → 0 < length bytes → has_bytes bytes ≡ true
some_has [] h = absurd (omega arith)
some_has (b ∷ bs) h = refl

pub none_has : (bytes : List ℕ) → length bytes ≡ 0 → has_bytes bytes ≡ false
none_has [] h = refl
none_has (b ∷ bs) h = absurd (omega arith)
