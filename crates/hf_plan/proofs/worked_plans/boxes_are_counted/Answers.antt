use Rattle.hf_plan.proofs.PlansWorked.{planned_photograph, planned_every_feature, long_sized_every_feature}
use Rattle.hf_plan.proofs.worked_plans.boxes_are_counted.Goals as goal

pub returns : goal.returns
returns c = record { photograph = planned_photograph; every_feature = planned_every_feature; long = long_sized_every_feature }
