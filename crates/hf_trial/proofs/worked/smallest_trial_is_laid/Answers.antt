use Rattle.std.proofs.Common.{refl}
use Rattle.hf_trial.specs.WorkedTrials.{file_of_smallest_trial}
use Rattle.hf_trial.proofs.Opened.{trial, layout}
use Rattle.hf_trial.proofs.worked.smallest_trial_is_laid.Goals as goal

pub returns : goal.returns
unfolding trial layout file_of_smallest_trial
returns c = refl
