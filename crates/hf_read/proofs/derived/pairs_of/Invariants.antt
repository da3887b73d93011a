use Rattle.std.proofs.Common.{◌≡◌, take}
use Rattle.hf_store.specs.Derived.{input_pairs}
use Rattle.hf_store.specs.Seen.{items_of}
use Rattle.hf_read.proofs.derived.pairs_of.Given as goal

abbrev pub invariant-loop-item : goal.invariant-loop-item
invariant-loop-item l = l.pairs.items ≡ input_pairs (items_of (take l.item-index l.items))
