use Rattle.std.proofs.Common.{take}
use Rattle.hf_store.specs.Referred.{HasAll, all_targets}
use Rattle.hf_store.specs.Seen.{items_of}
use Rattle.hf_store.proofs.referring.referred_of.Given as goal

abbrev pub invariant-loop-item : goal.invariant-loop-item
invariant-loop-item l = HasAll l.referred (all_targets (take l.item-index (items_of l.items)))
