use Rattle.hf_base.specs.LocationFaults.{is_external}
use Rattle.hf_extent.proofs.Firsts.{HasNone}
use Rattle.hf_extent.proofs.checks.external.Given as goal

abbrev pub invariant-loop-item : goal.invariant-loop-item
invariant-loop-item l = HasNone is_external l.items l.item-index
