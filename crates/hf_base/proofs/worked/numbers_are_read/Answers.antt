use Rattle.std.proofs.Common.{refl}
use Rattle.hf_base.specs.Number.{number}
use Rattle.hf_base.proofs.worked.numbers_are_read.Goals as goal

pub returns : goal.returns
unfolding number
returns c = record { one = refl; two = refl; four = refl; eight = refl; at = refl; kind = refl }
