-- Ids that rise, and their places.
use Rattle.std.proofs.Common.{◌≡◌, ℕ, ◌<◌, List, length, get_or, Err, ap, ◌∙◌, arith, inl, inr}
use Rattle.std.specs.Ordering.{nat_cmp}
use Rattle.std.specs.List.Sorted.{IsBinarySearchResult}
use Rattle.std.proofs.lemmas.Bool.{cases_lt, cases_order}
use Rattle.std.proofs.lemmas.List.Sorted.{searched}
use Rattle.hf_base.specs.Members.{IsIn, Rises}
use Rattle.hf_base.proofs.Rising.{rises_at, rises_to}
use Rattle.hf_order.proofs.Members.{in_at}

-- an id has one place
pub one_place : (ids : List ℕ) → Rises ◌<◌ ids → (i j : ℕ) → i < length ids → j < length ids → get_or ids i 0 ≡ get_or ids j 0 → i ≡ j
one_place ids up i j in' within same = elim (cases_order i j) [
  | inl e ↦ e
  | inr other ↦ elim other [
    | inl lt ↦ absurd (let below = rises_at ids up i j lt within in omega arith)
    | inr gt ↦ absurd (let above = rises_at ids up j i gt in' in omega arith)
  ]
]

-- a search finds each of the ids
pub not_missing : (ids : List ℕ) (id i : ℕ) → Rises ◌<◌ ids → IsIn id ids → IsBinarySearchResult (λ (y : ℕ). nat_cmp y id) ids (Err i) → ⊥
not_missing ids id i up among result =
    let at = in_at id ids among in
    let k = at.0 in
    let less : k < length ids = at.1 in
    let there : get_or ids k 0 ≡ id = at.2 in
    let parts = searched ids id (Err i) result (rises_to ids up) in
    elim (cases_lt k i) [
      | inl lt ↦ let below = parts.1 k lt in omega arith
      | inr ge ↦ let above = parts.2 k ge less in omega arith
    ]

pub pair_same : (p : ℕ × ℕ) (a b : ℕ) → a ≡ p.0 → b ≡ p.1 → (a, b) ≡ p
pair_same p a b e f = let q : ℕ × ℕ = (a, b) in let first : q ≡ (p.0, b) = ap (λ (n : ℕ). (n, b)) e in let second : (p.0, b) ≡ p = ap (λ (n : ℕ). (p.0, n)) f in first ∙ second
