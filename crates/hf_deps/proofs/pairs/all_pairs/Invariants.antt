use Rattle.std.proofs.Common.{◌≡◌, take}
use Rattle.hf_deps.specs.Kept.{keeping}
use Rattle.hf_deps.proofs.pairs.all_pairs.Given as goal

abbrev pub invariant-loop-i : goal.invariant-loop-i
invariant-loop-i l = l.pairs.items ≡ keeping l.bare (take l.i l.store.items)
