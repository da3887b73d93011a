use Rattle.hf_app.proofs.Headlines.{check_done}
use Rattle.hf_app.proofs.laws.check_tells_canonical_files.Goals as goal

pub returns : goal.returns
returns c = check_done
