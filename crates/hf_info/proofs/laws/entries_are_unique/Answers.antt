use Rattle.hf_info.proofs.IinfLemmas.{one_iinf}
use Rattle.hf_info.proofs.laws.entries_are_unique.Goals as goal

pub returns : goal.returns
returns c = one_iinf
