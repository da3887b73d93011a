use Rattle.hf_extent.specs.Seen.{items_seen}
use Rattle.hf_base.specs.LocationFaults.{is_endless}
use Rattle.hf_extent.proofs.Firsts.{HasNone}
use Rattle.hf_extent.proofs.chains.loc_cycle.Given as goal

abbrev pub invariant-loop-i : goal.invariant-loop-i
invariant-loop-i l = HasNone (is_endless (items_seen l.items)) l.items l.i
