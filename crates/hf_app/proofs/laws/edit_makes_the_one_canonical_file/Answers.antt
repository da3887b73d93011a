use Rattle.hf_app.proofs.Headlines.{edit_done}
use Rattle.hf_app.proofs.laws.edit_makes_the_one_canonical_file.Goals as goal

pub returns : goal.returns
returns c = edit_done
