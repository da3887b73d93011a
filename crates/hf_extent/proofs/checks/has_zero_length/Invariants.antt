use Rattle.std.proofs.Common.{◌≡◌, false, take}
use Rattle.std.specs.List.{list_any}
use Rattle.hf_base.specs.declared.loc.Extent.{Extent}
use Rattle.std.specs.Prelude.{◌==◌, ◌&&◌, not}
use Rattle.hf_base.specs.LocationFaults.{is_whole}
use Rattle.hf_extent.specs.Seen.{item_seen}
use Rattle.hf_extent.proofs.checks.has_zero_length.Given as goal

abbrev pub invariant-loop-extent : goal.invariant-loop-extent
invariant-loop-extent l = list_any (λ (e : Extent). (e.length == 0) && not (is_whole (item_seen l.item) e)) (take l.extent-index l.extent-items) ≡ false
