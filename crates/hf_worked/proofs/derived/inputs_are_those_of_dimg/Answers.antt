use Rattle.std.proofs.Common.{refl}
use Rattle.hf_worked.specs.WorkedStores.{every_feature, photograph}
use Rattle.hf_worked.proofs.derived.inputs_are_those_of_dimg.Goals as goal

pub returns-clause-pairs : goal.returns-clause-pairs
unfolding every_feature
returns-clause-pairs c = refl

pub returns-clause-tiles : goal.returns-clause-tiles
unfolding photograph
returns-clause-tiles c = refl
