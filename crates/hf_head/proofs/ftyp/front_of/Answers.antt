use Rattle.std.proofs.Common.{arith}
use Rattle.hf_base.specs.Number.{num}
use Rattle.hf_head.proofs.FtypLemmas.{front_is}
use Rattle.hf_head.proofs.ftyp.front_of.Goals as goal

pub returns : goal.returns
unfolding num
returns c = λ compatible len.
    rw (c.be_put-2.ensures, c.be_put.ensures, c.copy_from_slice.ensures.after, c.copy_from_slice-2.ensures.after) (front_is c.args.major c.args.minor compatible c.args.len (omega arith) len (omega arith))
