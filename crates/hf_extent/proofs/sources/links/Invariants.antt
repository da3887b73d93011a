use Rattle.std.proofs.Common.{◌≡◌, take}
use Rattle.hf_extent.specs.Seen.{items_seen}
use Rattle.hf_extent.specs.Places.{links_from}
use Rattle.hf_extent.proofs.sources.links.Given as goal

abbrev pub invariant-loop-i : goal.invariant-loop-i
invariant-loop-i l = l.pairs.items ≡ links_from l.ids 0 (items_seen (take l.i l.items))
