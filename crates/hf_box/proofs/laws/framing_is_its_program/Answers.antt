use Rattle.hf_box.proofs.BoxLaws.{boxes_iff_frames, fault_iff_frames}
use Rattle.hf_box.proofs.laws.framing_is_its_program.Goals as goal

pub returns : goal.returns
returns c = record { boxes = boxes_iff_frames; fault = fault_iff_frames }
