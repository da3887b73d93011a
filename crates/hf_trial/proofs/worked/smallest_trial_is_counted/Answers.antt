use Rattle.std.proofs.Common.{refl}
use Rattle.hf_trial.specs.WorkedTrials.{SmallestTrialHasLengths}
use Rattle.hf_trial.proofs.Opened.{trial, layout}
use Rattle.hf_trial.proofs.worked.smallest_trial_is_counted.Goals as goal

lengths : SmallestTrialHasLengths
unfolding trial layout
lengths = record { iinf_is = refl; iref_is = refl; iprp_is = refl; idat_is = refl; iloc_is = refl; meta_is = refl; mdat_is = refl; file_is = refl }

pub returns : goal.returns
unfolding trial
returns c = record { items = refl; primary = refl; kinds = refl; body = refl; counts = refl; lengths = lengths }
