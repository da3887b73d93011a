use Rattle.std.proofs.Common.{refl}
use Rattle.hf_base.specs.Number.{num}
use Rattle.hf_loc.proofs.entry.long_extent.Goals as goal

pub returns : goal.returns
unfolding num
returns c = rw (c.be_put-2.ensures, c.be_put.ensures) refl
