use Rattle.std.proofs.Common.{refl}
use Rattle.hf_base.specs.Number.{num}
use Rattle.hf_base.proofs.worked.numbers_are_written.Goals as goal

pub returns : goal.returns
unfolding num
returns c = record { one = refl; two = refl; three = refl; four = refl; eight = refl; greatest = refl; version = refl }
