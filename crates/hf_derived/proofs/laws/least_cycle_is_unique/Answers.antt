use Rattle.hf_derived.proofs.Cycles.{one_least}
use Rattle.hf_derived.proofs.laws.least_cycle_is_unique.Goals as goal

pub returns : goal.returns
returns c = one_least
