use Rattle.hf_plan.proofs.Plans.{plan_is_canon}
use Rattle.hf_plan.proofs.laws.plan_is_of_the_canonical_file.Goals as goal

pub returns : goal.returns
returns c = plan_is_canon
