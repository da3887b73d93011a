use Rattle.hf_app.proofs.Headlines.{redact_done}
use Rattle.hf_app.proofs.laws.redact_makes_the_one_canonical_file.Goals as goal

pub returns : goal.returns
returns c = redact_done
