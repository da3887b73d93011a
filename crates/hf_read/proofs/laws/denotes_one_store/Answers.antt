use Rattle.hf_read.proofs.DenotesLaws.{denotes_one}
use Rattle.hf_read.proofs.laws.denotes_one_store.Goals as goal

pub returns : goal.returns
returns c = denotes_one
