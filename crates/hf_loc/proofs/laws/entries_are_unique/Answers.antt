use Rattle.hf_loc.proofs.IlocLemmas.{one_value}
use Rattle.hf_loc.proofs.laws.entries_are_unique.Goals as goal

pub returns : goal.returns
returns c = one_value
