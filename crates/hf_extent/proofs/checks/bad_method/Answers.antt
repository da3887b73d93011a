use Rattle.std.proofs.Common.{arith, ap, ◌≡◌, true, false}
use Rattle.std.proofs.lemmas.Bool.Decides.{nat_tests}
use Rattle.hf_base.specs.declared.fault.ReadRefusal.TheVariants.{BadMethod}
use Rattle.hf_base.specs.LocationFaults.{bad_method_fault, has_bad_method, refused}
use Rattle.hf_extent.specs.Seen.{item_seen}
use Rattle.hf_extent.proofs.Firsts.{none_at_start, none_more, first_here, first_nowhere}
use Rattle.hf_extent.proofs.checks.bad_method.Goals as goal

pub loop-item-init : goal.loop-item-init
loop-item-init c = none_at_start has_bad_method c.args.items.now

pub returns-then-item-gt2 : goal.returns-then-item-gt2
unfolding bad_method_fault
returns-then-item-gt2 c =
    let held : has_bad_method (item_seen c.item-item.result) ≡ true = grind (arith, nat_tests) in
    ap (refused (λ id. BadMethod id)) (first_here has_bad_method c.args.items.now _ c.item-item.result c.loop-item.invariant c.loop-item-test.true c.item-item.is held)

pub loop-item-preserved : goal.loop-item-preserved
loop-item-preserved c =
    let fails : has_bad_method (item_seen c.item-item.result) ≡ false = grind (arith, nat_tests) in
    none_more has_bad_method c.args.items.now _ c.item-item.result c.loop-item.invariant c.loop-item-test.true c.item-item.is fails

pub returns : goal.returns
unfolding bad_method_fault
returns c = ap (refused (λ id. BadMethod id)) (first_nowhere has_bad_method c.args.items.now _ c.loop-item.invariant (omega arith))
