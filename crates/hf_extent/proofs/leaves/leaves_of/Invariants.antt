use Rattle.std.proofs.Common.{◌≡◌, ◌-◌, ◌^◌, min, sum, map, take}
use Rattle.hf_base.specs.declared.loc.Extent.{Extent}
use Rattle.hf_base.specs.BytesOf.{by_method}
use Rattle.hf_extent.specs.Seen.{item_seen}
use Rattle.hf_extent.specs.Places.{place_of}
use Rattle.hf_extent.specs.Known.{at_place}
use Rattle.hf_extent.proofs.leaves.leaves_of.Given as goal

abbrev pub invariant-loop-extent : goal.invariant-loop-extent
invariant-loop-extent l = l.total ≡ min (sum (map (λ (e : Extent). by_method l.item.method 1 1 (at_place l.counts (place_of l.ids (item_seen l.item) e))) (take l.extent-index l.extent-items))) (2 ^ 64 - 1)
