use Rattle.hf_read.proofs.WalkLaws.{least_cycle}
use Rattle.hf_read.proofs.laws.first_walker_is_the_least.Goals as goal

pub returns : goal.returns
returns c = least_cycle
