use Rattle.std.proofs.Common.{◌≡◌, ◌≤◌, ◌++◌, length}
use Rattle.std.specs.List.{AllByRecursion}
use Rattle.hf_read.specs.Kept.{kept_refs as kept}
use Rattle.hf_read.specs.References.{AreInOrder, seen}
use Rattle.hf_read.proofs.references.refs_of.Given as goal

abbrev pub invariant-loop-kind : goal.invariant-loop-kind
invariant-loop-kind l = (l.refs ++ kept l.ids (seen l.rest) l.from ≡ kept l.ids (seen l.boxes) l.from) × AreInOrder l.rest
    × AllByRecursion (λ b. l.from ≤ b.from) (seen l.rest) × (length l.rest ≤ length l.boxes)

abbrev pub decreases-loop-kind : goal.decreases-loop-kind
decreases-loop-kind l = length l.rest
