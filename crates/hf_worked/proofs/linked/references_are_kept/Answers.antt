use Rattle.std.proofs.Common.{refl, arith}
use Rattle.hf_worked.specs.WorkedChanges.{second_in_all}
use Rattle.hf_worked.specs.WorkedStores.{photograph}
use Rattle.hf_worked.proofs.linked.references_are_kept.Goals as goal

pub returns : goal.returns
unfolding second_in_all photograph
returns c = record {
  third = search arith;
  fourth = search arith;
  second = search arith;
  first_id = refl;
  last_id = refl;
  no_id = refl;
}
