use Rattle.hf_deps.proofs.PairLists.{list_more}
use Rattle.hf_deps.proofs.pairs.add_item.Goals as goal

pub loop-list-preserved : goal.loop-list-preserved
loop-list-preserved c =
    let more = list_more c.args.bare c.args.item.now.id c.as_slice-refs.result.now c.loop-list.list-index c.list-item.result c.args.pairs.now.items
    c.loop-list.pairs.items in
    more c.add_needs.new.pairs.items c.add_minors.new.pairs.items c.loop-list-test.true c.list-item.is c.loop-list.invariant c.in_ok-add_needs.ensures
    c.in_ok-add_minors.ensures
