use Rattle.hf_worked.proofs.LaidFiles.{laid_photograph, laid_photograph_redacted, laid_photograph_bare}
use Rattle.hf_worked.proofs.worked.photograph_is_laid.Goals as goal

pub returns : goal.returns
returns c = record { whole = laid_photograph; redacted = laid_photograph_redacted; bare = laid_photograph_bare }
