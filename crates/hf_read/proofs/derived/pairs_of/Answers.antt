use Rattle.std.proofs.Common.{rules}
use Rattle.hf_read.proofs.DerivedLaws.{pairs_more}
use Rattle.hf_read.proofs.derived.pairs_of.Goals as goal

pub loop-item-preserved : goal.loop-item-preserved
loop-item-preserved c =
    let more = pairs_more c.args.items.now c.loop-item.item-index c.item-item.result c.loop-item.pairs.items c.add_pairs.new.pairs.items in
    more c.loop-item-test.true c.item-item.is c.loop-item.invariant (search rules)
