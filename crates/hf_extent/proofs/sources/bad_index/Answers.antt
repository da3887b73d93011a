use Rattle.std.proofs.Common.{arith, ap, sym, ◌∙◌, ◌≡◌, true, false}
use Rattle.hf_base.specs.declared.fault.ReadRefusal.TheVariants.{BadIndex}
use Rattle.hf_base.specs.LocationFaults.{bad_index_fault, has_bad_index, refused}
use Rattle.hf_extent.specs.Seen.{item_seen, items_seen}
use Rattle.hf_extent.proofs.Firsts.{none_at_start, none_more, first_here, first_nowhere}
use Rattle.hf_extent.proofs.PlaceLaws.{bad_place_is}
use Rattle.hf_extent.proofs.sources.bad_index.Goals as goal

pub loop-item-init : goal.loop-item-init
loop-item-init c = none_at_start (has_bad_index (items_seen c.args.items.now)) c.args.items.now

pub returns-then-lacks_source : goal.returns-then-lacks_source
unfolding bad_index_fault
returns-then-lacks_source c =
    let held : has_bad_index (items_seen c.args.items.now) (item_seen c.item-item.result) ≡ true =
    sym (bad_place_is c.args.ids.now (items_seen c.args.items.now) (item_seen c.item-item.result) c.requires.known) ∙ sym c.lacks_source.ensures
    ∙ c.if-lacks_source.true in
    ap (refused (λ id. BadIndex id)) (first_here (has_bad_index (items_seen c.args.items.now)) c.args.items.now _ c.item-item.result c.loop-item.invariant c.loop-item-test.true c.item-item.is held)

pub loop-item-preserved : goal.loop-item-preserved
loop-item-preserved c =
    let fails : has_bad_index (items_seen c.args.items.now) (item_seen c.item-item.result) ≡ false =
    sym (bad_place_is c.args.ids.now (items_seen c.args.items.now) (item_seen c.item-item.result) c.requires.known) ∙ sym c.lacks_source.ensures
    ∙ c.if-lacks_source.false in
    none_more (has_bad_index (items_seen c.args.items.now)) c.args.items.now _ c.item-item.result c.loop-item.invariant c.loop-item-test.true c.item-item.is fails

pub returns : goal.returns
unfolding bad_index_fault
returns c = ap (refused (λ id. BadIndex id)) (first_nowhere (has_bad_index (items_seen c.args.items.now)) c.args.items.now _ c.loop-item.invariant (omega arith))
