use Rattle.hf_app.proofs.Headlines.{extract_done}
use Rattle.hf_app.proofs.laws.extract_makes_the_bytes.Goals as goal

pub returns : goal.returns
returns c = extract_done
