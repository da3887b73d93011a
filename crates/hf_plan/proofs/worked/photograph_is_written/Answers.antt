use Rattle.hf_plan.proofs.CanonicalFiles.{canon_photograph, canon_photograph_redacted, canon_photograph_bare}
use Rattle.hf_plan.proofs.worked.photograph_is_written.Goals as goal

pub returns : goal.returns
returns c = record { whole = canon_photograph; redacted = canon_photograph_redacted; bare = canon_photograph_bare }
