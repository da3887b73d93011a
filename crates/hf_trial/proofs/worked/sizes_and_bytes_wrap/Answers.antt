use Rattle.std.proofs.Common.{refl}
use Rattle.hf_trial.specs.Bytes.{tile_bytes}
use Rattle.hf_trial.proofs.worked.sizes_and_bytes_wrap.Goals as goal

pub returns : goal.returns
unfolding tile_bytes
returns c = record { least = refl; greatest = refl; seed = refl; bytes = refl }
