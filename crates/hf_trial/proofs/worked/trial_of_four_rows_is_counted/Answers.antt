use Rattle.std.proofs.Common.{refl}
use Rattle.hf_trial.specs.Bytes.{trial_tail, trial_bytes}
use Rattle.hf_trial.proofs.Opened.{trial}
use Rattle.hf_trial.proofs.worked.trial_of_four_rows_is_counted.Goals as goal

pub returns : goal.returns
unfolding trial trial_tail trial_bytes
returns c = record { primary = refl; body = refl; targets = refl; bytes = refl }
