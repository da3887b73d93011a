use Rattle.std.proofs.Common.{◌≡◌, take}
use Rattle.hf_store.specs.Capped.{capped}
use Rattle.hf_store.specs.Seen.{items_of}
use Rattle.hf_store.specs.Sizes.{infes_size}
use Rattle.hf_store.proofs.measuring.infes_size.Given as goal

abbrev pub invariant-loop-item : goal.invariant-loop-item
invariant-loop-item l = l.sum ≡ capped (infes_size l.wide (take l.item-index (items_of l.items)))
