use Rattle.std.proofs.Common.{refl}
use Rattle.hf_base.specs.Number.{number}
use Rattle.hf_box.specs.Framing.{cut, box_at, frames_within}
use Rattle.hf_box.specs.WorkedBoxes.{free, free_at, compact_free, long_free, open_free}
use Rattle.hf_box.proofs.worked.spellings_are_read.Goals as goal

pub returns : goal.returns
unfolding number cut box_at frames_within free free_at compact_free long_free open_free
returns c = record { none = refl; compact = refl; long = refl; sizeless = refl; behind = refl }
