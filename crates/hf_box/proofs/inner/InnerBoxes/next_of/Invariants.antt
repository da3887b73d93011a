use Rattle.std.proofs.Common.{◌≡◌, length}
use Rattle.hf_box.specs.Tables.{of_kind}
use Rattle.hf_box.proofs.inner.InnerBoxes.next_of.Given as goal

abbrev pub invariant-loop-view : goal.invariant-loop-view
invariant-loop-view l = of_kind l.kind l.fn.self ≡ of_kind l.kind l.self

abbrev pub decreases-loop-view : goal.decreases-loop-view
decreases-loop-view l = length l.self
