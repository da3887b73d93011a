use Rattle.std.proofs.Common.{refl}
use Rattle.hf_base.specs.Number.{num}
use Rattle.hf_write.proofs.iinf.narrow_count.Goals as goal

pub returns : goal.returns
unfolding num
returns c = rw (c.be_put.ensures) refl
