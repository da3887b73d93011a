use Rattle.std.proofs.Common.{length-append, arith}
use Rattle.hf_base.specs.NumberLaws.{length-num}
use Rattle.hf_store.proofs.tally.ended.Goals as goal

pub returns : goal.returns
returns c = simp (length-append, length-num) (omega arith)
