use Rattle.std.proofs.Common.{◌+◌, refl, arith}
use Rattle.hf_table.proofs.Writes.{written-gains, written-keeps}
use Rattle.hf_table.proofs.uses.raise.Goals as goal

pub returns-clause-raised : goal.returns-clause-raised
returns-clause-raised c sure =
    let v = c.in-Some.count.now in written-gains c.args.places.now _ c.args.prop.now v (v + 1) (c.get_mut.follows.holds (v + 1)) c.in-Some.ensures.value refl

pub returns-clause-kept : goal.returns-clause-kept
returns-clause-kept c sure =
    let v = c.in-Some.count.now in written-keeps c.args.places.now _ c.args.prop.now v (v + 1) (c.get_mut.follows.holds (v + 1)) c.in-Some.ensures.value
    (omega arith)
