use Rattle.std.proofs.Common.{◌≡◌, ◌-◌, ◌^◌, min, sum, map, take}
use Rattle.hf_extent.specs.Seen.{item_seen}
use Rattle.hf_extent.specs.Known.{extent_by}
use Rattle.hf_extent.proofs.sizes.size_of.Given as goal

abbrev pub invariant-loop-extent : goal.invariant-loop-extent
invariant-loop-extent l = l.total ≡ min (sum (map (extent_by l.len l.inner l.ids l.sizes (item_seen l.item)) (take l.extent-index l.extent-items))) (2 ^ 128 - 1)
