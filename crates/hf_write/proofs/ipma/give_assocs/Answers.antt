use Rattle.std.proofs.Common.{refl, arith}
use Rattle.hf_store.specs.Table.{table_of}
use Rattle.hf_write.specs.Entries.{assoc_if_any}
use Rattle.hf_write.proofs.Chains.{gives_next, gives_last, there_is}
use Rattle.hf_write.proofs.ipma.give_assocs.Goals as goal

pub returns-in_err-give_assoc : goal.returns-in_err-give_assoc
returns-in_err-give_assoc g c =
    let item = there_is c.args.store.now.items c.loop-i.i (omega (arith, c.loop-i-test.true, c.len-i-end.ensures.count)) in
    gives_last (assoc_if_any c.args.plan.now.wide c.args.long (table_of c.args.store.now)) c.args.store.now.items c.loop-i.i item.0 item.1 refl c.from_residual.ensures.0 c.loop-i.invariant (c.in_err-give_assoc.ensures item.0 item.1)

pub loop-i-preserved : goal.loop-i-preserved
loop-i-preserved g c =
    let item = there_is c.args.store.now.items c.loop-i.i (omega (arith, c.loop-i-test.true, c.len-i-end.ensures.count)) in
    gives_next (assoc_if_any c.args.plan.now.wide c.args.long (table_of c.args.store.now)) c.args.store.now.items c.loop-i.i item.0 item.1 c.loop-i.invariant (c.in_ok-give_assoc.ensures item.0 item.1)
