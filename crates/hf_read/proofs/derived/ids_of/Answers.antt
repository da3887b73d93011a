use Rattle.hf_store.specs.Seen.{item_of, items_of}
use Rattle.hf_store.specs.Store.{Item, ids_of}
use Rattle.hf_read.proofs.Gathered.{all_taken, part_more}
use Rattle.hf_store.specs.declared.item.Item.{Item as View}
use Rattle.std.proofs.Common.{List, arith}
use Rattle.hf_read.proofs.derived.ids_of.Goals as goal

pub loop-item-preserved : goal.loop-item-preserved
loop-item-preserved c =
    let l = c.loop-item in
    let more = part_more item_of (λ (i : Item). i.id) c.args.items.now l.item-index c.item-item.result l.ids.items c.push.new.self.items in
    more c.loop-item-test.true c.item-item.is l.invariant c.in_ok-push.ensures.items

pub returns : goal.returns
returns c =
    all_taken (λ (items : List View). ids_of (items_of items)) c.args.items.now c.loop-item.item-index c.loop-item.ids.items
    (omega (arith, c.loop-item-test.false, c.loop-item.auto.item-index-end)) c.loop-item.invariant
