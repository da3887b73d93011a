use Rattle.std.proofs.Common.{refl}
use Rattle.hf_base.specs.Number.{number}
use Rattle.hf_base.specs.Reading.{front, front_bytes, front_four, front_full}
use Rattle.hf_base.proofs.worked.fields_are_read.Goals as goal

pub returns : goal.returns
unfolding number front front_bytes front_four front_full
returns c = record { whole = λ short. refl; last = λ short. refl; cut = λ short. refl; bytes = λ short. refl; bytes_last = λ short. refl; bytes_cut = λ short. refl; kind = λ short. refl; kind_last = λ short. refl; kind_cut = λ short. refl; version = λ short. refl; version_cut = λ short. refl }
