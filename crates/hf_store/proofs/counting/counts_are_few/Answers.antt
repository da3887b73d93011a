use Rattle.hf_store.proofs.FewCounts.{counts_are_few}
use Rattle.hf_store.proofs.counting.counts_are_few.Goals as goal

pub returns : goal.returns
returns c = counts_are_few
