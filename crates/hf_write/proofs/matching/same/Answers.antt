use Rattle.std.proofs.Common.{ap}
use Rattle.hf_desk.specs.Outside.{Outside}
use Rattle.hf_write.proofs.Compared.{whole_is_canon}
use Rattle.hf_write.proofs.matching.same.Goals as goal

pub returns-then-is_ok : goal.returns-then-is_ok
returns-then-is_ok c =
    let begun = c.new-desk.ensures in
    let whole = whole_is_canon c.args.store.now c.args.file.now _ _ c.write.result c.valid.ensures (ap (λ (o : Outside). o.steady) begun) (ap (λ (o : Outside). o.mark) begun) c.write.ensures in
    ((λ t. whole.0 (c.is_whole.ensures.0 t)), (λ canon. c.is_whole.ensures.1 (whole.1 canon)))
