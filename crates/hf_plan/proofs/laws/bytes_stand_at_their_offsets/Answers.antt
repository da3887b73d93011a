use Rattle.hf_plan.proofs.Places.{bytes_stand}
use Rattle.hf_plan.proofs.laws.bytes_stand_at_their_offsets.Goals as goal

pub returns : goal.returns
returns c = bytes_stand
