use Rattle.std.proofs.Common.{take}
use Rattle.std.specs.List.{flat_map}
use Rattle.hf_store.specs.Seen.{items_of}
use Rattle.hf_store.specs.Table.{props_of}
use Rattle.hf_table.specs.Uses.{Tallies}
use Rattle.hf_store.proofs.store.build.uses_of.Given as goal

abbrev pub invariant-loop-item : goal.invariant-loop-item
invariant-loop-item l = Tallies l.uses (flat_map props_of (take l.item-index (items_of l.items)))
