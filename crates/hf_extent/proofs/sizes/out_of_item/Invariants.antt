use Rattle.hf_base.specs.LocationFaults.{is_out_of_item}
use Rattle.hf_extent.specs.Seen.{items_seen}
use Rattle.hf_extent.proofs.Firsts.{HasNone}
use Rattle.hf_extent.proofs.sizes.out_of_item.Given as goal

abbrev pub invariant-loop-item : goal.invariant-loop-item
invariant-loop-item l = HasNone (is_out_of_item l.len l.inner (items_seen l.items)) l.items l.item-index
