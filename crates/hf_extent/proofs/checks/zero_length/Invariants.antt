use Rattle.hf_base.specs.LocationFaults.{has_zero_length}
use Rattle.hf_extent.proofs.Firsts.{HasNone}
use Rattle.hf_extent.proofs.checks.zero_length.Given as goal

abbrev pub invariant-loop-item : goal.invariant-loop-item
invariant-loop-item l = HasNone has_zero_length l.items l.item-index
