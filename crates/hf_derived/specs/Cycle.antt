-- Items that are made of themselves. This is the project's own.
use Rattle.std.specs.Prelude.{◌≡◌, ℕ, ◌<◌, List, length, slice_index, Option, Some, None}
use Rattle.std.specs.List.{AllByRecursion}
use Rattle.hf_base.specs.Members.{IsIn}
use Rattle.hf_order.specs.Order.{IsEndless, StartsEndless}

-- both ends of each pair are among these ids
abbrev pub AreAmong : List ℕ → List (ℕ × ℕ) → Type 0
AreAmong ids pairs = AllByRecursion (λ pair. IsIn pair.0 ids × IsIn pair.1 ids) pairs

-- the ids at two places
abbrev pub pair_at : List ℕ → ℕ × ℕ → ℕ × ℕ
pair_at ids pair = (slice_index ids pair.0, slice_index ids pair.1)

-- the least number from which a walk along the pairs never ends, and none where every walk ends
abbrev pub IsLeastCycle : List (ℕ × ℕ) → Option ℕ → Type 0
IsLeastCycle pairs None = (walk : ℕ → ℕ) → ¬ IsEndless pairs walk
IsLeastCycle pairs (Some id) = StartsEndless pairs id × ((a : ℕ) → a < id → ¬ StartsEndless pairs a)

-- the first place where the number is not 0
abbrev pub IsFirstLeft : List ℕ → Option ℕ → Type 0
IsFirstLeft left None = (k : ℕ) → k < length left → slice_index left k ≡ 0
IsFirstLeft left (Some place) = (place < length left) × (0 < slice_index left place) × ((k : ℕ) → k < place → slice_index left k ≡ 0)
