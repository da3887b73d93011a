use Rattle.std.proofs.Common.{◌-◌, ◌≡◌, ◌<◌, ◌≤◌, length, Some, ℕ}
use Rattle.std.specs.Prelude.{slice_get}
use Rattle.hf_store.specs.Store.{ids_of}
use Rattle.hf_store.proofs.store.Store.position.Given as goal

-- where the id stands, it stands between the two places
abbrev pub invariant-loop-low : goal.invariant-loop-low
invariant-loop-low l = (l.high ≤ length l.self.items) × ((k : ℕ) → slice_get (ids_of l.self.items) k ≡ Some l.id → (l.low ≤ k) × (k < l.high))

abbrev pub decreases-loop-low : goal.decreases-loop-low
decreases-loop-low l = l.high - l.low
