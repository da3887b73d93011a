use Rattle.hf_trial.proofs.Valid.{trial_stores_are_valid}
use Rattle.hf_trial.proofs.laws.trial_stores_are_valid.Goals as goal

pub returns : goal.returns
returns c = trial_stores_are_valid
