use Rattle.hf_canon.proofs.Denoting.{canon_denotes}
use Rattle.hf_canon.proofs.laws.canonical_file_denotes_its_store.Goals as goal

pub returns : goal.returns
returns c = canon_denotes
