use Rattle.hf_deps.proofs.Needers.{least_needer_is_told, no_needer_is_told}
use Rattle.hf_deps.proofs.laws.least_needer_is_told.Goals as goal

pub returns : goal.returns
returns c = record { some = least_needer_is_told; none = no_needer_is_told }
