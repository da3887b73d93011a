use Rattle.std.proofs.Common.{◌≡◌, ◌++◌, take}
use Rattle.std.specs.List.{flat_map}
use Rattle.hf_deps.specs.Kept.{pairs_of}
use Rattle.hf_deps.proofs.pairs.add_item.Given as goal

abbrev pub invariant-loop-list : goal.invariant-loop-list
invariant-loop-list l = l.pairs.items ≡ l.fn.pairs.items ++ flat_map (pairs_of l.bare l.item.id) (take l.list-index l.refs)
