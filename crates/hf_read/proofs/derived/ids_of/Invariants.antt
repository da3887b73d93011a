use Rattle.std.proofs.Common.{◌≡◌, take}
use Rattle.hf_store.specs.Seen.{items_of}
use Rattle.hf_store.specs.Store.{ids_of}
use Rattle.hf_read.proofs.derived.ids_of.Given as goal

abbrev pub invariant-loop-item : goal.invariant-loop-item
invariant-loop-item l = l.ids.items ≡ ids_of (items_of (take l.item-index l.items))
