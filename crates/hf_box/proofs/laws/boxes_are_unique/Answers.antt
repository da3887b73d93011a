use Rattle.hf_box.proofs.BoxLaws.{same_boxes}
use Rattle.hf_box.proofs.laws.boxes_are_unique.Goals as goal

pub returns : goal.returns
returns c = same_boxes
