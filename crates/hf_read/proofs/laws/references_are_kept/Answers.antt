use Rattle.hf_read.proofs.KeptRefs.{refs_are_kept}
use Rattle.hf_read.proofs.laws.references_are_kept.Goals as goal

pub returns : goal.returns
returns c = refs_are_kept
