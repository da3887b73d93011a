use Rattle.hf_store.proofs.CountsAre.{counts_are}
use Rattle.hf_store.proofs.counting.counts_are_of_the_layout.Goals as goal

pub returns : goal.returns
returns c = counts_are
