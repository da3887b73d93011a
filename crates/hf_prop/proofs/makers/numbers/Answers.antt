use Rattle.std.proofs.Common.{refl}
use Rattle.hf_base.specs.Number.{num}
use Rattle.hf_prop.proofs.makers.numbers.Goals as goal

pub returns : goal.returns
unfolding num
returns c = rw (c.be_put-8.ensures, c.be_put-7.ensures, c.be_put-6.ensures, c.be_put-5.ensures, c.be_put-4.ensures, c.be_put-3.ensures, c.be_put-2.ensures, c.be_put.ensures) refl
