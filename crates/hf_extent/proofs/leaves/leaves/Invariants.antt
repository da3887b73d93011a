use Rattle.std.proofs.Common.{◌≡◌, ◌-◌, ◌^◌, min, take, length}
use Rattle.hf_base.specs.Located.{Located}
use Rattle.hf_base.specs.Counts.{leaves_of}
use Rattle.hf_extent.specs.Seen.{items_seen}
use Rattle.hf_extent.proofs.TotalLaws.{Knows}
use Rattle.hf_extent.proofs.leaves.leaves.Given as goal

abbrev pub invariant-loop-at : goal.invariant-loop-at
invariant-loop-at l = record { count : length l.counts.items ≡ length l.ids; knows : Knows (λ (r : Located). min (leaves_of (items_seen l.items) r) (2 ^ 64 - 1)) (items_seen l.items) (take l.at-index l.order) l.counts.items }
