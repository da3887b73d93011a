use Rattle.hf_edit.proofs.Steps.{steps_keep_validity}
use Rattle.hf_edit.proofs.laws.steps_keep_validity.Goals as goal

pub returns : goal.returns
returns c = steps_keep_validity
