use Rattle.std.proofs.Common.{◌≡◌, ◌++◌, take}
use Rattle.hf_extent.specs.Seen.{item_seen}
use Rattle.hf_extent.proofs.items.add_sources.Given as goal

abbrev pub invariant-loop-id : goal.invariant-loop-id
invariant-loop-id l = item_seen l.item ≡ record (item_seen l.fn.item) { sources = l.fn.item.sources ++ take l.id-index l.id-items }
