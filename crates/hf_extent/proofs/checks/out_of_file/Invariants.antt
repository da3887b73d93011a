use Rattle.std.proofs.Common.{length}
use Rattle.hf_base.specs.LocationFaults.{is_out_of_file}
use Rattle.hf_extent.proofs.Firsts.{HasNone}
use Rattle.hf_extent.proofs.checks.out_of_file.Given as goal

abbrev pub invariant-loop-item : goal.invariant-loop-item
invariant-loop-item l = HasNone (is_out_of_file (length l.file)) l.items l.item-index
