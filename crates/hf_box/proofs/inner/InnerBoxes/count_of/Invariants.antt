use Rattle.std.proofs.Common.{◌≡◌, ◌+◌, length}
use Rattle.hf_box.specs.Tables.{of_kind}
use Rattle.hf_box.proofs.inner.InnerBoxes.count_of.Given as goal

abbrev pub invariant-loop-left : goal.invariant-loop-left
invariant-loop-left l = l.many + length (of_kind l.kind l.left) ≡ length (of_kind l.kind l.self)

abbrev pub decreases-loop-left : goal.decreases-loop-left
decreases-loop-left l = length (of_kind l.kind l.left)
