-- Nodes that need each other, and walks along what they need. A pair says that its first node needs its second one. This
-- is the project's own.
use Rattle.std.specs.Prelude.{◌≡◌, ◌↔◌, ℕ, suc, ◌<◌, List, length, take, slice_index}
use Rattle.std.specs.List.{AllByRecursion}
use Rattle.hf_base.specs.Members.{IsIn}

-- both ends of each pair are below count
abbrev pub AreWithin : ℕ → List (ℕ × ℕ) → Type 0
AreWithin count pairs = AllByRecursion (λ pair. (pair.0 < count) × (pair.1 < count)) pairs

-- a walk along the pairs that never ends
abbrev pub IsEndless : List (ℕ × ℕ) → (ℕ → ℕ) → Type 0
IsEndless pairs walk = (n : ℕ) → IsIn (walk n, walk (suc n)) pairs

-- some walk from here never ends
abbrev pub StartsEndless : List (ℕ × ℕ) → ℕ → Type 0
StartsEndless pairs a = (walk : ℕ → ℕ) × (walk 0 ≡ a) × IsEndless pairs walk

-- distinct nodes below count, each behind all that it needs; what is not among them needs another that is not
pub record IsOrder (count : ℕ) (pairs : List (ℕ × ℕ)) (order : List ℕ) : Type 0 where
  pub within : (k : ℕ) → k < length order → slice_index order k < count
  pub distinct : (k : ℕ) → k < length order → ¬ IsIn (slice_index order k) (take k order)
  pub earlier : (k : ℕ) → k < length order → (b : ℕ) → IsIn (slice_index order k, b) pairs → IsIn b (take k order)
  pub outside : (a : ℕ) → a < count → ¬ IsIn a order → (b : ℕ) × IsIn (a, b) pairs × ¬ IsIn b order

-- a number for each node, which is 0 exactly for those of the order
pub record IsLeft (count : ℕ) (left order : List ℕ) : Type 0 where
  pub size : length left ≡ count
  pub zero : (a : ℕ) → a < count → IsIn a order ↔ (slice_index left a ≡ 0)
