use Rattle.std.proofs.Common.{◌≡◌, drop}
use Rattle.hf_store.specs.LimitFaults.{first_item, has_long_list}
use Rattle.hf_store.specs.Seen.{items_of}
use Rattle.hf_store.proofs.store.build.first_long_list.Given as goal

abbrev pub invariant-loop-item : goal.invariant-loop-item
invariant-loop-item l = first_item has_long_list (items_of l.items) ≡ first_item has_long_list (drop l.item-index (items_of l.items))
