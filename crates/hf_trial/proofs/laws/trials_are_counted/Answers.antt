use Rattle.hf_trial.proofs.Valid.{trial_length, trial_bytes_are_few}
use Rattle.hf_trial.proofs.laws.trials_are_counted.Goals as goal

pub returns : goal.returns
returns c = record { items = trial_length; bytes = trial_bytes_are_few }
