use Rattle.std.proofs.Common.{◌≡◌, drop}
use Rattle.hf_store.specs.LimitFaults.{first_item}
use Rattle.hf_store.specs.Seen.{items_of}
use Rattle.hf_read.specs.Faults.{is_misfit}
use Rattle.hf_read.proofs.derived.first_misfit.Given as goal

abbrev pub invariant-loop-item : goal.invariant-loop-item
invariant-loop-item l = first_item is_misfit (items_of l.items) ≡ first_item is_misfit (items_of (drop l.item-index l.items))
