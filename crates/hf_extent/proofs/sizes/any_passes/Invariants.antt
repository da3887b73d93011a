use Rattle.std.proofs.Common.{◌≡◌, false, take}
use Rattle.std.specs.List.{list_any}
use Rattle.hf_base.specs.declared.loc.Extent.{Extent}
use Rattle.hf_base.specs.Counts.{size_of}
use Rattle.hf_base.specs.Levels.{told}
use Rattle.hf_base.specs.Located.{source_of}
use Rattle.hf_base.specs.LocationFaults.{passes}
use Rattle.hf_extent.specs.Seen.{item_seen, items_seen}
use Rattle.hf_extent.proofs.sizes.any_passes.Given as goal

abbrev pub invariant-loop-extent : goal.invariant-loop-extent
invariant-loop-extent l = list_any (λ (e : Extent). passes (told 0 (size_of l.len l.inner (items_seen l.items)) (source_of (items_seen l.items) (item_seen l.item) e)) (item_seen l.item) e) (take l.extent-index l.extent-items) ≡ false
