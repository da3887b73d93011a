use Rattle.std.proofs.Common.{refl}
use Rattle.hf_base.specs.Number.{number}
use Rattle.hf_box.specs.Framing.{cut, box_at, frames_within}
use Rattle.hf_box.specs.WorkedBoxes.{free, free_at, compact_free, size_7}
use Rattle.hf_box.proofs.worked.boxes_are_limited.Goals as goal

pub returns : goal.returns
unfolding number cut box_at frames_within free free_at compact_free size_7
returns c = record { within = refl; above = refl; short = refl; earlier = refl }
