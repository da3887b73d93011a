use Rattle.hf_deps.proofs.Redactions.{addition_is_forgotten, removal_is_forgotten}
use Rattle.hf_deps.proofs.laws.redaction_forgets.Goals as goal

pub returns : goal.returns
returns c = record { removed = removal_is_forgotten; added = addition_is_forgotten }
