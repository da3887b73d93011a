use Rattle.std.specs.Option.{option_copied}
use Rattle.hf_base.specs.LocationFaults.{lacks_idat}
use Rattle.hf_extent.proofs.Firsts.{HasNone}
use Rattle.hf_extent.proofs.checks.no_idat.Given as goal

abbrev pub invariant-loop-item : goal.invariant-loop-item
invariant-loop-item l = HasNone (lacks_idat (option_copied l.idat)) l.items l.item-index
