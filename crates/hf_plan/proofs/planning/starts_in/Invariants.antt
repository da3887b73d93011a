use Rattle.hf_plan.proofs.Starts.{AreStarts}
use Rattle.hf_plan.proofs.planning.starts_in.Given as goal

abbrev pub invariant-loop-i : goal.invariant-loop-i
invariant-loop-i l = AreStarts l.store l.total l.i l.inner l.outer l.starts.items
