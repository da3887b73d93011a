use Rattle.std.proofs.Common.{arith, ap, ◌≡◌, true, false}
use Rattle.std.proofs.lemmas.Bool.Decides.{nat_tests}
use Rattle.hf_base.specs.declared.fault.ReadRefusal.TheVariants.{External}
use Rattle.hf_base.specs.LocationFaults.{external_fault, is_external, refused}
use Rattle.hf_extent.specs.Seen.{item_seen}
use Rattle.hf_extent.proofs.Firsts.{none_at_start, none_more, first_here, first_nowhere}
use Rattle.hf_extent.proofs.checks.external.Goals as goal

pub loop-item-init : goal.loop-item-init
loop-item-init c = none_at_start is_external c.args.items.now

pub returns-then-item-ne0 : goal.returns-then-item-ne0
unfolding external_fault
returns-then-item-ne0 c =
    let held : is_external (item_seen c.item-item.result) ≡ true = grind (arith, nat_tests) in
    ap (refused (λ id. External id)) (first_here is_external c.args.items.now _ c.item-item.result c.loop-item.invariant c.loop-item-test.true c.item-item.is held)

pub loop-item-preserved : goal.loop-item-preserved
loop-item-preserved c =
    let fails : is_external (item_seen c.item-item.result) ≡ false = grind (arith, nat_tests) in
    none_more is_external c.args.items.now _ c.item-item.result c.loop-item.invariant c.loop-item-test.true c.item-item.is fails

pub returns : goal.returns
unfolding external_fault
returns c = ap (refused (λ id. External id)) (first_nowhere is_external c.args.items.now _ c.loop-item.invariant (omega arith))
