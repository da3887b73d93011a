use Rattle.std.proofs.Common.{◌≡◌, [], take}
use Rattle.hf_base.specs.Located.{located_items}
use Rattle.hf_extent.specs.Seen.{items_seen}
use Rattle.hf_extent.proofs.items.bare_items.Given as goal

abbrev pub invariant-loop-id : goal.invariant-loop-id
invariant-loop-id l = items_seen l.items.items ≡ located_items (take l.id-index l.ids) [] []
