use Rattle.hf_deps.proofs.Redactions.{redacted_once}
use Rattle.hf_deps.proofs.laws.redacted_once.Goals as goal

pub returns : goal.returns
returns c = redacted_once
