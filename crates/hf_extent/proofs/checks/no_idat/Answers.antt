use Rattle.std.proofs.Common.{arith, ap, sym, ◌∙◌, ◌≡◌, true, false}
use Rattle.std.specs.Option.{option_copied}
use Rattle.hf_base.specs.declared.fault.ReadRefusal.TheVariants.{NoIdat}
use Rattle.hf_base.specs.LocationFaults.{no_idat_fault, lacks_idat, refused}
use Rattle.hf_extent.specs.Seen.{item_seen}
use Rattle.hf_extent.proofs.Firsts.{none_at_start, none_more, first_here, first_nowhere}
use Rattle.hf_extent.proofs.checks.no_idat.Goals as goal

pub loop-item-init : goal.loop-item-init
loop-item-init c = none_at_start (lacks_idat (option_copied c.args.idat)) c.args.items.now

pub returns-then-lacks_idat : goal.returns-then-lacks_idat
unfolding no_idat_fault
returns-then-lacks_idat c =
    let held : (lacks_idat (option_copied c.args.idat)) (item_seen c.item-item.result) ≡ true = sym c.lacks_idat.ensures ∙ c.if-lacks_idat.true in
    ap (refused (λ id. NoIdat id)) (first_here (lacks_idat (option_copied c.args.idat)) c.args.items.now _ c.item-item.result c.loop-item.invariant c.loop-item-test.true c.item-item.is held)

pub loop-item-preserved : goal.loop-item-preserved
loop-item-preserved c =
    let fails : (lacks_idat (option_copied c.args.idat)) (item_seen c.item-item.result) ≡ false = sym c.lacks_idat.ensures ∙ c.if-lacks_idat.false in
    none_more (lacks_idat (option_copied c.args.idat)) c.args.items.now _ c.item-item.result c.loop-item.invariant c.loop-item-test.true c.item-item.is fails

pub returns : goal.returns
unfolding no_idat_fault
returns c = ap (refused (λ id. NoIdat id)) (first_nowhere (lacks_idat (option_copied c.args.idat)) c.args.items.now _ c.loop-item.invariant (omega arith))
