use Rattle.hf_app.proofs.Trials.{trial_makes}
use Rattle.hf_app.proofs.laws.trial_makes_the_trial.Goals as goal

pub returns : goal.returns
returns c = trial_makes
