use Rattle.std.proofs.Common.{◌≡◌, false, take}
use Rattle.std.specs.List.{list_any}
use Rattle.hf_base.specs.declared.loc.Extent.{Extent}
use Rattle.std.specs.Option.{is_none}
use Rattle.hf_extent.specs.Places.{place_of}
use Rattle.hf_extent.specs.Seen.{item_seen}
use Rattle.hf_extent.proofs.sources.any_lacks.Given as goal

abbrev pub invariant-loop-extent : goal.invariant-loop-extent
invariant-loop-extent l = list_any (λ (e : Extent). is_none (place_of l.ids (item_seen l.item) e)) (take l.extent-index l.extent-items) ≡ false
