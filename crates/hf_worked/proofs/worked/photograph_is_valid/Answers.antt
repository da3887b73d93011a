use Rattle.hf_worked.proofs.ValidStores.{valid_photograph, valid_photograph_redacted, valid_photograph_bare}
use Rattle.hf_worked.proofs.worked.photograph_is_valid.Goals as goal

pub returns : goal.returns
returns c = record { whole = valid_photograph; redacted = valid_photograph_redacted; bare = valid_photograph_bare }
