use Rattle.std.proofs.Common.{◌-◌, arith}
use Rattle.hf_table.proofs.Writes.{written-loses, written-keeps, written-same}
use Rattle.hf_table.proofs.uses.lower.Goals as goal

pub returns-then-has_more-clause-lowered : goal.returns-then-has_more-clause-lowered
returns-then-has_more-clause-lowered c sure =
    let v = c.in-Some.count.now in written-loses c.args.places.now _ c.args.prop.now v (v - 1) (c.get_mut.follows.holds (v - 1)) c.in-Some.ensures.value
    (omega arith)

pub returns-then-has_more-clause-kept : goal.returns-then-has_more-clause-kept
returns-then-has_more-clause-kept c sure =
    let v = c.in-Some.count.now in written-keeps c.args.places.now _ c.args.prop.now v (v - 1) (c.get_mut.follows.holds (v - 1)) c.in-Some.ensures.value
    (omega arith)

pub returns-else-has_more-clause-unchanged : goal.returns-else-has_more-clause-unchanged
returns-else-has_more-clause-unchanged c sure =
    let v = c.in-Some.count.now in written-same c.args.places.now _ c.args.prop.now v (c.get_mut.follows.holds v) c.in-Some.ensures.value
