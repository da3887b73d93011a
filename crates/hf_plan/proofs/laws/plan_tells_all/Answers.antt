use Rattle.hf_plan.proofs.Readers.{plan_tells_all}
use Rattle.hf_plan.proofs.laws.plan_tells_all.Goals as goal

pub returns : goal.returns
returns c = plan_tells_all
