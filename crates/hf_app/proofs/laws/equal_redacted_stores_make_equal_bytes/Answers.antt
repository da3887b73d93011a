use Rattle.hf_app.proofs.EqualBytes.{equal_redacted}
use Rattle.hf_app.proofs.laws.equal_redacted_stores_make_equal_bytes.Goals as goal

pub returns : goal.returns
returns c = equal_redacted
