use Rattle.hf_deps.proofs.Chains.{kept_are_told, kept_is_least}
use Rattle.hf_deps.proofs.laws.kept_is_least.Goals as goal

pub returns : goal.returns
returns c = record { told = kept_are_told; least = kept_is_least }
