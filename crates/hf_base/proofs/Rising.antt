-- Numbers that rise.
use Rattle.std.proofs.Common.{◌≡◌, ℕ, zero, suc, ◌≤◌, ◌<◌, List, [], ◌∷◌, length, get_or, ap, arith, inl, inr}
use Rattle.std.proofs.lemmas.Bool.{cases_lt}
use Rattle.hf_base.specs.Members.{RisesFrom, Rises}

rises_above : (low : ℕ) (xs : List ℕ) → RisesFrom ◌<◌ low xs → (k : ℕ) → k < length xs → low < get_or xs k 0
rises_above low [] up k less = absurd (omega arith)
rises_above low (x ∷ xs) up zero less = up.0
rises_above low (x ∷ xs) up (suc k) less = let next = rises_above x xs up.1 k (omega arith) in let first : low < x = up.0 in omega arith

rises_tail : (x : ℕ) (xs : List ℕ) → Rises ◌<◌ (x ∷ xs) → Rises ◌<◌ xs
rises_tail x [] up = tt
rises_tail x (y ∷ ys) up = up.1

pub rises_at : (xs : List ℕ) → Rises ◌<◌ xs → (i j : ℕ) → i < j → j < length xs → get_or xs i 0 < get_or xs j 0
rises_at [] up i j lt less = absurd (omega arith)
rises_at (x ∷ xs) up i zero lt less = absurd (omega arith)
rises_at (x ∷ xs) up zero (suc j) lt less = rises_above x xs up j (omega arith)
rises_at (x ∷ xs) up (suc i) (suc j) lt less = rises_at xs (rises_tail x xs up) i j (omega arith) (omega arith)

pub rises_to : (xs : List ℕ) → Rises ◌<◌ xs → (i j : ℕ) → i ≤ j → j < length xs → get_or xs i 0 ≤ get_or xs j 0
rises_to xs up i j le less = elim (cases_lt i j) [
  | inl lt ↦ let below = rises_at xs up i j lt less in omega arith
  | inr ge ↦ let same : get_or xs i 0 ≡ get_or xs j 0 = ap (λ (n : ℕ). get_or xs n 0) (let e : i ≡ j = omega arith in e) in omega arith
]
