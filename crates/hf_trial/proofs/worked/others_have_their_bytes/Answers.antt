use Rattle.std.proofs.Common.{refl}
use Rattle.hf_base.specs.Number.{num}
use Rattle.hf_derived.specs.Grid.{grid_body}
use Rattle.hf_trial.specs.Bytes.{grid_bytes, exif_bytes, hvcc_body, ispe_body, trial_tail}
use Rattle.hf_trial.proofs.worked.others_have_their_bytes.Goals as goal

pub returns : goal.returns
unfolding num grid_body grid_bytes exif_bytes hvcc_body ispe_body trial_tail
returns c = record { grid = refl; most = refl; hvcc = refl; ispe = refl; tail = refl }
