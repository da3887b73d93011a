use Rattle.std.proofs.Common.{refl, arith}
use Rattle.hf_worked.proofs.linked.associations_select.Goals as goal

pub returns : goal.returns
returns c = record {
  some = search arith;
  none = refl;
  past = λ held h. search arith;
}
