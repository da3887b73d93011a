use Rattle.std.proofs.Common.{◌∙◌, arith}
use Rattle.hf_store.proofs.Tallied.{items-next, items-all}
use Rattle.hf_store.proofs.tally.count_items.Goals as goal

pub loop-item-preserved : goal.loop-item-preserved
loop-item-preserved c =
    c.plus-counts.ensures ∙ items-next c.args.items.now c.loop-item.item-index c.item-item.result c.loop-item.counts c.count_item.result (omega arith) c.item-item.is c.loop-item.invariant c.count_item.ensures

pub returns : goal.returns
returns c = c.loop-item.invariant ∙ items-all c.args.items.now c.loop-item.item-index (omega arith)
