use Rattle.std.proofs.Common.{refl}
use Rattle.hf_base.specs.Number.{num}
use Rattle.hf_write.proofs.ipma.wide_entry.Goals as goal

pub returns : goal.returns
unfolding num
returns c = rw (c.be_put-2.ensures, c.be_put.ensures, c.from.ensures) refl
