use Rattle.hf_head.proofs.FtypLemmas.{one_value}
use Rattle.hf_head.proofs.laws.brands_are_unique.Goals as goal

pub returns : goal.returns
returns c = one_value
