use Rattle.std.proofs.Common.{refl}
use Rattle.hf_base.specs.Number.{number}
use Rattle.hf_base.specs.Reading.{front, times}
use Rattle.hf_base.proofs.worked.tables_are_read.Goals as goal

pub returns : goal.returns
unfolding number front times
returns c = record { none = λ short. refl; two = λ short. refl; cut = λ short. refl }
