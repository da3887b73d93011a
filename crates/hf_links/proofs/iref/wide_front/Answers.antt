use Rattle.std.proofs.Common.{arith}
use Rattle.hf_base.specs.Number.{num}
use Rattle.hf_links.proofs.Fronts.{wide_is}
use Rattle.hf_links.proofs.iref.wide_front.Goals as goal

pub returns : goal.returns
unfolding num
returns c = λ to same.
    rw (c.copy_from_slice.ensures.after, c.be_put-3.ensures, c.be_put-2.ensures, c.be_put.ensures, ← same) (wide_is c.args.kind c.args.from to (omega arith))
