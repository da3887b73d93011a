use Rattle.hf_app.proofs.EqualBytes.{equal_bytes}
use Rattle.hf_app.proofs.laws.equal_stores_make_equal_bytes.Goals as goal

pub returns : goal.returns
returns c = equal_bytes
