use Rattle.hf_head.proofs.PitmLemmas.{one_value}
use Rattle.hf_head.proofs.laws.primary_is_unique.Goals as goal

pub returns : goal.returns
returns c = one_value
