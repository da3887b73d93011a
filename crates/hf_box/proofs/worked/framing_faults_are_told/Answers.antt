use Rattle.std.proofs.Common.{refl}
use Rattle.hf_base.specs.Number.{number}
use Rattle.hf_box.specs.Framing.{cut, box_at, frames_within}
use Rattle.hf_box.specs.WorkedBoxes.{compact_free, long_free, open_free, size_2, size_7, long_size_15}
use Rattle.hf_box.proofs.worked.framing_faults_are_told.Goals as goal

pub returns : goal.returns
unfolding number cut box_at frames_within compact_free long_free open_free size_2 size_7 long_size_15
returns c = record { one = refl; seven = refl; long_size = refl; least = refl; greatest = refl; long = refl; passes = refl; long_passes = refl; inside = refl; first = refl; second = refl }
