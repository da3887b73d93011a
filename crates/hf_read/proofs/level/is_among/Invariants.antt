use Rattle.std.proofs.Common.{◌≡◌, false, take}
use Rattle.hf_read.specs.TopLevel.{is_among}
use Rattle.hf_read.proofs.level.is_among.Given as goal

abbrev pub invariant-loop-k : goal.invariant-loop-k
invariant-loop-k l = is_among (take l.k-index l.kinds) l.kind ≡ false
