use Rattle.std.proofs.Common.{arith}
use Rattle.hf_deps.proofs.Undescribing.{all_mapped, mapped_place, none_mapped, one_mapped}
use Rattle.hf_deps.proofs.redaction.undescribe_all.Goals as goal

pub loop-i-init : goal.loop-i-init
loop-i-init c = none_mapped c.args.store.now

pub undescribe-requires : goal.undescribe-requires
undescribe-requires c = mapped_place c.loop-i.i c.args.store.now c.loop-i.store c.loop-i.invariant
    (omega (arith, c.len-i-end.ensures.count, c.loop-i-test.true))

pub loop-i-preserved : goal.loop-i-preserved
loop-i-preserved c = one_mapped c.loop-i.i c.args.store.now c.loop-i.store c.undescribe.new.store c.loop-i.invariant c.undescribe.ensures

pub returns : goal.returns
returns c = all_mapped c.loop-i.i c.args.store.now c.loop-i.store c.loop-i.invariant (omega (arith, c.len-i-end.ensures.count, c.loop-i-test.false))
