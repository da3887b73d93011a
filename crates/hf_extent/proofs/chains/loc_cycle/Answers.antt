use Rattle.std.proofs.Common.{arith, ap, sym, ◌∙◌, ◌≡◌, true, false, Bool}
use Rattle.std.specs.Prelude.{not}
use Rattle.hf_base.specs.declared.fault.ReadRefusal.TheVariants.{LocCycle}
use Rattle.hf_base.specs.Counts.{ends}
use Rattle.hf_base.specs.LocationFaults.{loc_cycle_fault, is_endless, refused}
use Rattle.hf_extent.specs.Seen.{item_seen, items_seen}
use Rattle.hf_extent.proofs.Firsts.{none_at_start, none_more, first_here, first_nowhere}
use Rattle.hf_extent.proofs.OrderLaws.{AreNamed}
use Rattle.hf_extent.proofs.SeenLaws.{left_ends, left_endless}
use Rattle.hf_extent.proofs.chains.loc_cycle.Goals as goal

pub loop-i-init : goal.loop-i-init
loop-i-init c = none_at_start (is_endless (items_seen c.args.items.now)) c.args.items.now

pub loop-i-preserved : goal.loop-i-preserved
loop-i-preserved c =
    let named : AreNamed c.args.ids.now (items_seen c.args.items.now) = record { at = c.requires.known; named = c.requires.named } in
    let ending : ends (items_seen c.args.items.now) (item_seen c.index-items-i.result) ≡ true =
    left_ends c.args.ids.now c.args.items.now _ c.args.order.now.left.items c.loop-i.i c.index-items-i.result named c.requires.ordered c.requires.left c.loop-i-test.true c.index-items-i.is (sym c.is_left_out.ensures ∙ c.if-is_left_out.false) in
    none_more (is_endless (items_seen c.args.items.now)) c.args.items.now _ c.index-items-i.result c.loop-i.invariant c.loop-i-test.true c.index-items-i.is (ap (λ (b : Bool). not b) ending)

pub returns-then-is_left_out : goal.returns-then-is_left_out
unfolding loc_cycle_fault
returns-then-is_left_out c =
    let named : AreNamed c.args.ids.now (items_seen c.args.items.now) = record { at = c.requires.known; named = c.requires.named } in
    let endless : ends (items_seen c.args.items.now) (item_seen c.index-items-i.result) ≡ false =
    left_endless c.args.ids.now c.args.items.now _ c.args.order.now.left.items c.loop-i.i c.index-items-i.result named c.requires.ordered c.requires.left c.loop-i-test.true c.index-items-i.is (sym c.is_left_out.ensures ∙ c.if-is_left_out.true) in
    ap (refused (λ id. LocCycle id)) (first_here (is_endless (items_seen c.args.items.now)) c.args.items.now _ c.index-items-i.result c.loop-i.invariant c.loop-i-test.true c.index-items-i.is (ap (λ (b : Bool). not b) endless))

pub returns : goal.returns
unfolding loc_cycle_fault
returns c = ap (refused (λ id. LocCycle id)) (first_nowhere (is_endless (items_seen c.args.items.now)) c.args.items.now _ c.loop-i.invariant (omega arith))
