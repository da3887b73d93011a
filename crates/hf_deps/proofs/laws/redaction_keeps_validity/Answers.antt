use Rattle.hf_deps.proofs.Redactions.{redaction_keeps_validity}
use Rattle.hf_deps.proofs.laws.redaction_keeps_validity.Goals as goal

pub returns : goal.returns
returns c = redaction_keeps_validity
