use Rattle.std.proofs.Common.{arith, ap, sym, ◌∙◌, ◌≡◌, true, false}
use Rattle.hf_base.specs.declared.fault.ReadRefusal.TheVariants.{ZeroLength}
use Rattle.hf_base.specs.LocationFaults.{zero_length_fault, has_zero_length, refused}
use Rattle.hf_extent.specs.Seen.{item_seen}
use Rattle.hf_extent.proofs.Firsts.{none_at_start, none_more, first_here, first_nowhere}
use Rattle.hf_extent.proofs.checks.zero_length.Goals as goal

pub loop-item-init : goal.loop-item-init
loop-item-init c = none_at_start has_zero_length c.args.items.now

pub returns-then-has_zero_length : goal.returns-then-has_zero_length
unfolding zero_length_fault
returns-then-has_zero_length c =
    let held : has_zero_length (item_seen c.item-item.result) ≡ true = sym c.has_zero_length.ensures ∙ c.if-has_zero_length.true in
    ap (refused (λ id. ZeroLength id)) (first_here has_zero_length c.args.items.now _ c.item-item.result c.loop-item.invariant c.loop-item-test.true c.item-item.is held)

pub loop-item-preserved : goal.loop-item-preserved
loop-item-preserved c =
    let fails : has_zero_length (item_seen c.item-item.result) ≡ false = sym c.has_zero_length.ensures ∙ c.if-has_zero_length.false in
    none_more has_zero_length c.args.items.now _ c.item-item.result c.loop-item.invariant c.loop-item-test.true c.item-item.is fails

pub returns : goal.returns
unfolding zero_length_fault
returns c = ap (refused (λ id. ZeroLength id)) (first_nowhere has_zero_length c.args.items.now _ c.loop-item.invariant (omega arith))
