use Rattle.std.proofs.Common.{◌≡◌, [], take}
use Rattle.hf_base.specs.Located.{located_items}
use Rattle.hf_extent.specs.Seen.{items_seen}
use Rattle.hf_extent.proofs.items.items.Given as goal

abbrev pub invariant-loop-loc : goal.invariant-loop-loc
invariant-loop-loc l = items_seen l.items.items ≡ located_items l.ids (take l.loc-index l.locs) []

abbrev pub invariant-loop-link : goal.invariant-loop-link
invariant-loop-link l = items_seen l.items.items ≡ located_items l.ids l.locs (take l.link-index l.links)
