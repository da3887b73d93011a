use Rattle.std.proofs.Common.{arith, ap, sym, ◌∙◌, ◌≡◌, true, false}
use Rattle.std.specs.Prelude.{length}
use Rattle.hf_base.specs.declared.fault.ReadRefusal.TheVariants.{OutOfFile}
use Rattle.hf_base.specs.LocationFaults.{out_of_file_fault, is_out_of_file, refused}
use Rattle.hf_extent.specs.Seen.{item_seen}
use Rattle.hf_extent.proofs.Firsts.{none_at_start, none_more, first_here, first_nowhere}
use Rattle.hf_extent.proofs.checks.out_of_file.Goals as goal

pub loop-item-init : goal.loop-item-init
loop-item-init c = none_at_start (is_out_of_file (length c.args.file.now)) c.args.items.now

pub returns-then-is_out_of_file : goal.returns-then-is_out_of_file
unfolding out_of_file_fault
returns-then-is_out_of_file c =
    let held : (is_out_of_file (length c.args.file.now)) (item_seen c.item-item.result) ≡ true = sym c.is_out_of_file.ensures ∙ c.if-is_out_of_file.true in
    ap (refused (λ id. OutOfFile id)) (first_here (is_out_of_file (length c.args.file.now)) c.args.items.now _ c.item-item.result c.loop-item.invariant c.loop-item-test.true c.item-item.is held)

pub loop-item-preserved : goal.loop-item-preserved
loop-item-preserved c =
    let fails : (is_out_of_file (length c.args.file.now)) (item_seen c.item-item.result) ≡ false = sym c.is_out_of_file.ensures ∙ c.if-is_out_of_file.false in
    none_more (is_out_of_file (length c.args.file.now)) c.args.items.now _ c.item-item.result c.loop-item.invariant c.loop-item-test.true c.item-item.is fails

pub returns : goal.returns
unfolding out_of_file_fault
returns c = ap (refused (λ id. OutOfFile id)) (first_nowhere (is_out_of_file (length c.args.file.now)) c.args.items.now _ c.loop-item.invariant (omega arith))
