use Rattle.std.proofs.Common.{◌≡◌, false, take}
use Rattle.std.specs.List.{list_any}
use Rattle.hf_base.specs.LocationFaults.{passes}
use Rattle.hf_extent.specs.Seen.{item_seen}
use Rattle.hf_extent.proofs.checks.any_passes.Given as goal

abbrev pub invariant-loop-extent : goal.invariant-loop-extent
invariant-loop-extent l = list_any (passes l.len (item_seen l.item)) (take l.extent-index l.extent-items) ≡ false
