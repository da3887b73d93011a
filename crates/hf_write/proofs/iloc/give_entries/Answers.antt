use Rattle.std.proofs.Common.{refl, arith}
use Rattle.hf_write.specs.Entries.{planned_entry}
use Rattle.hf_write.proofs.Chains.{gives_next, gives_last, there_is}
use Rattle.hf_write.proofs.iloc.give_entries.Goals as goal

pub returns-in_err-give_planned : goal.returns-in_err-give_planned
returns-in_err-give_planned g c =
    let item = there_is c.args.store.now.items c.loop-i.i (omega (arith, c.loop-i-test.true, c.len-i-end.ensures.count)) in
    gives_last (planned_entry c.args.store.now c.args.plan.now) c.args.store.now.items c.loop-i.i item.0 item.1 refl c.from_residual.ensures.0 c.loop-i.invariant (c.in_err-give_planned.ensures item.0 item.1)

pub loop-i-preserved : goal.loop-i-preserved
loop-i-preserved g c =
    let item = there_is c.args.store.now.items c.loop-i.i (omega (arith, c.loop-i-test.true, c.len-i-end.ensures.count)) in
    gives_next (planned_entry c.args.store.now c.args.plan.now) c.args.store.now.items c.loop-i.i item.0 item.1 c.loop-i.invariant (c.in_ok-give_planned.ensures item.0 item.1)
