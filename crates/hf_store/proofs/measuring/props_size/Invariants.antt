use Rattle.std.proofs.Common.{◌≡◌, take}
use Rattle.std.specs.List.{flat_map}
use Rattle.hf_store.specs.Capped.{capped}
use Rattle.hf_store.specs.Seen.{items_of}
use Rattle.hf_store.specs.Sizes.{props_size}
use Rattle.hf_store.specs.Table.{props_of}
use Rattle.hf_table.specs.Table.{table}
use Rattle.hf_store.proofs.measuring.props_size.Given as goal

abbrev pub invariant-loop-k : goal.invariant-loop-k
invariant-loop-k l = l.sum ≡ capped (props_size (take l.k (table (flat_map props_of (items_of l.lists.items.now)))))
