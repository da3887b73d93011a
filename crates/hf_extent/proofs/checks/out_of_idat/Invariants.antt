use Rattle.std.specs.Option.{option_copied}
use Rattle.hf_base.specs.Counts.{inner_size}
use Rattle.hf_base.specs.LocationFaults.{is_out_of_idat}
use Rattle.hf_extent.proofs.Firsts.{HasNone}
use Rattle.hf_extent.proofs.checks.out_of_idat.Given as goal

abbrev pub invariant-loop-item : goal.invariant-loop-item
invariant-loop-item l = HasNone (is_out_of_idat (inner_size (option_copied l.idat))) l.items l.item-index
