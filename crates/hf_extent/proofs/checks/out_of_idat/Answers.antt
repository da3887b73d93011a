use Rattle.std.proofs.Common.{arith, ap, sym, ◌∙◌, ◌≡◌, true, false, ℕ}
use Rattle.std.specs.Option.{option_copied}
use Rattle.hf_base.specs.Counts.{inner_size}
use Rattle.hf_base.specs.declared.fault.ReadRefusal.TheVariants.{OutOfIdat}
use Rattle.hf_base.specs.LocationFaults.{out_of_idat_fault, is_out_of_idat, refused}
use Rattle.hf_extent.specs.Seen.{item_seen}
use Rattle.hf_extent.proofs.Firsts.{none_at_start, none_more, first_here, first_nowhere}
use Rattle.hf_extent.proofs.checks.out_of_idat.Goals as goal

pub loop-item-init : goal.loop-item-init
loop-item-init c = none_at_start (is_out_of_idat (inner_size (option_copied c.args.idat))) c.args.items.now

pub returns-then-is_out_of_idat : goal.returns-then-is_out_of_idat
unfolding out_of_idat_fault
returns-then-is_out_of_idat c =
    let held : (is_out_of_idat (inner_size (option_copied c.args.idat))) (item_seen c.item-item.result) ≡ true =
    ap (λ (n : ℕ). is_out_of_idat n (item_seen c.item-item.result)) (sym c.inner_size-inner.ensures) ∙ sym c.is_out_of_idat.ensures
    ∙ c.if-is_out_of_idat.true in
    ap (refused (λ id. OutOfIdat id)) (first_here (is_out_of_idat (inner_size (option_copied c.args.idat))) c.args.items.now _ c.item-item.result c.loop-item.invariant c.loop-item-test.true c.item-item.is held)

pub loop-item-preserved : goal.loop-item-preserved
loop-item-preserved c =
    let fails : (is_out_of_idat (inner_size (option_copied c.args.idat))) (item_seen c.item-item.result) ≡ false =
    ap (λ (n : ℕ). is_out_of_idat n (item_seen c.item-item.result)) (sym c.inner_size-inner.ensures) ∙ sym c.is_out_of_idat.ensures
    ∙ c.if-is_out_of_idat.false in
    none_more (is_out_of_idat (inner_size (option_copied c.args.idat))) c.args.items.now _ c.item-item.result c.loop-item.invariant c.loop-item-test.true c.item-item.is fails

pub returns : goal.returns
unfolding out_of_idat_fault
returns c = ap (refused (λ id. OutOfIdat id)) (first_nowhere (is_out_of_idat (inner_size (option_copied c.args.idat))) c.args.items.now _ c.loop-item.invariant (omega arith))
