use Rattle.hf_store.specs.Seen.{item_of}
use Rattle.hf_deps.proofs.PairLists.{item_more, none_yet}
use Rattle.hf_deps.proofs.pairs.all_pairs.Goals as goal

pub loop-i-init : goal.loop-i-init
loop-i-init c = none_yet c.args.bare c.new-pairs.result.items c.new-pairs.ensures.items

pub loop-i-preserved : goal.loop-i-preserved
loop-i-preserved c =
    let item = item_of c.at.result.now in
    item_more c.args.bare c.args.store.now.items c.loop-i.i item c.loop-i.pairs.items c.add_item.new.pairs.items c.at.ensures c.loop-i.invariant
    c.in_ok-add_item.ensures
