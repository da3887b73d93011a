use Rattle.std.proofs.Common.{refl}
use Rattle.hf_base.specs.Number.{num}
use Rattle.hf_derived.specs.Grid.{grid_body}
use Rattle.hf_trial.specs.Bytes.{tile_bytes, grid_bytes, exif_bytes, hvcc_body, ispe_body, trial_tail, trial_bytes}
use Rattle.hf_trial.proofs.worked.tiles_have_their_bytes.Goals as goal

pub returns : goal.returns
unfolding num grid_body tile_bytes grid_bytes exif_bytes hvcc_body ispe_body trial_tail trial_bytes
returns c = record { sizes = refl; first = refl; last = refl; bytes = refl }
