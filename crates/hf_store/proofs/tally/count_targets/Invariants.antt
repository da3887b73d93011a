use Rattle.std.proofs.Common.{◌≡◌, take}
use Rattle.hf_store.specs.Capped.{capped}
use Rattle.hf_store.specs.Counts.{targets_of}
use Rattle.hf_store.proofs.tally.count_targets.Given as goal

abbrev pub invariant-loop-list : goal.invariant-loop-list
invariant-loop-list l = l.sum ≡ capped (targets_of (take l.list-index l.refs))
