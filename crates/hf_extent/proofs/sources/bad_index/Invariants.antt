use Rattle.hf_extent.specs.Seen.{items_seen}
use Rattle.hf_base.specs.LocationFaults.{has_bad_index}
use Rattle.hf_extent.proofs.Firsts.{HasNone}
use Rattle.hf_extent.proofs.sources.bad_index.Given as goal

abbrev pub invariant-loop-item : goal.invariant-loop-item
invariant-loop-item l = HasNone (has_bad_index (items_seen l.items)) l.items l.item-index
