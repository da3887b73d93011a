use Rattle.hf_read.proofs.KeptGroups.{kept_left, left_kept, groups_rise}
use Rattle.hf_read.proofs.laws.groups_are_kept.Goals as goal

pub returns-clause-members : goal.returns-clause-members
returns-clause-members c = λ ids groups g. (kept_left ids groups g, left_kept ids groups g)

pub returns-clause-rises : goal.returns-clause-rises
returns-clause-rises c = groups_rise
