use Rattle.hf_info.proofs.IinfLemmas.{one_infe}
use Rattle.hf_info.proofs.laws.entry_is_unique.Goals as goal

pub returns : goal.returns
returns c = one_infe
