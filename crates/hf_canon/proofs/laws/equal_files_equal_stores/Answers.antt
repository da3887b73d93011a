use Rattle.hf_canon.proofs.Denoting.{equal_files}
use Rattle.hf_canon.proofs.laws.equal_files_equal_stores.Goals as goal

pub returns : goal.returns
returns c = equal_files
