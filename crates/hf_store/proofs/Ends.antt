-- A rank that falls along the pairs leaves no endless walk.
use Rattle.std.proofs.Common.{◌≡◌, ℕ, zero, suc, ◌+◌, ◌<◌, ◌≤◌, true, List, [], ◌∷◌, arith, subst, inl, inr}
use Rattle.std.specs.Prelude.{nat_lt}
use Rattle.std.specs.List.{list_all}
use Rattle.std.proofs.lemmas.Bool.{and_parts, ltb-true}
use Rattle.hf_store.specs.Lists.{IsIn}
use Rattle.hf_store.specs.Derived.{IsEndless}

abbrev Falls : (ℕ → ℕ) → List (ℕ × ℕ) → Type 0
Falls rank pairs = list_all (λ (p : ℕ × ℕ). nat_lt (rank p.1) (rank p.0)) pairs ≡ true

falls : (rank : ℕ → ℕ) (pairs : List (ℕ × ℕ)) (p : ℕ × ℕ) → Falls rank pairs → IsIn p pairs → rank p.1 < rank p.0
falls rank [] p e h = absurd h
falls rank (q ∷ qs) p e (inl h) = subst (λ (x : ℕ × ℕ). rank x.1 < rank x.0) h (ltb-true _ _ (and_parts _ _ e).0)
falls rank (q ∷ qs) p e (inr h) = falls rank qs p (and_parts _ _ e).1 h

descends : (rank : ℕ → ℕ) (pairs : List (ℕ × ℕ)) → Falls rank pairs → (walk : ℕ → ℕ) → IsEndless pairs walk → (n : ℕ) → rank (walk n) + n ≤ rank (walk 0)
descends rank pairs e walk h zero = omega arith
descends rank pairs e walk h (suc n) = omega (arith, descends rank pairs e walk h n, falls rank pairs (walk n, walk (suc n)) e (h n))

pub ends : (rank : ℕ → ℕ) (pairs : List (ℕ × ℕ)) → Falls rank pairs → (walk : ℕ → ℕ) → IsEndless pairs walk → ⊥
ends rank pairs e walk h = absurd (omega (arith, descends rank pairs e walk h (suc (rank (walk 0)))))
