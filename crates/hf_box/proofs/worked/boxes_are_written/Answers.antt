use Rattle.std.proofs.Common.{refl}
use Rattle.hf_base.specs.Number.{num}
use Rattle.hf_box.specs.Head.{box, box_head, box_len, head_len}
use Rattle.hf_box.specs.WorkedBoxes.{free, compact_free, greatest_compact_head, least_long_head}
use Rattle.hf_box.proofs.worked.boxes_are_written.Goals as goal

pub returns : goal.returns
unfolding num box box_head box_len head_len free compact_free greatest_compact_head least_long_head
returns c = record { compact = refl; compact_head = refl; long_head = refl; compact_len = refl; long_len = refl; compact_head_len = refl; long_head_len = refl }
