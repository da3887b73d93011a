use Rattle.hf_box.proofs.WalkLaws.{rows_iff_walk, fault_iff_walk}
use Rattle.hf_box.proofs.laws.walk_is_its_program.Goals as goal

pub returns : goal.returns
returns c = record { rows = rows_iff_walk; fault = fault_iff_walk }
