use Rattle.hf_base.specs.LocationFaults.{has_bad_method}
use Rattle.hf_extent.proofs.Firsts.{HasNone}
use Rattle.hf_extent.proofs.checks.bad_method.Given as goal

abbrev pub invariant-loop-item : goal.invariant-loop-item
invariant-loop-item l = HasNone has_bad_method l.items l.item-index
