use Rattle.std.proofs.Common.{refl}
use Rattle.hf_base.specs.Number.{number}
use Rattle.hf_box.specs.Framing.{cut, box_at, frames_within}
use Rattle.hf_box.specs.Walk.{children_at, rows_of, walk_at}
use Rattle.hf_box.specs.WorkedBoxes.{short_meta, open_in_meta, two_metas}
use Rattle.hf_box.proofs.worked.metas_are_walked.Goals as goal

pub returns : goal.returns
unfolding number cut box_at frames_within children_at rows_of walk_at short_meta open_in_meta two_metas
returns c = record { second = refl; short = refl; child = refl; file = refl; short_file = refl }
