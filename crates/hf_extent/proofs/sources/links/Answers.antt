use Rattle.hf_extent.specs.Places.{links_from}
use Rattle.hf_extent.proofs.LinkLaws.{links_step}
use Rattle.hf_extent.proofs.sources.links.Goals as goal

pub loop-i-init : goal.loop-i-init
unfolding links_from
loop-i-init c = c.new-pairs.ensures.items

pub loop-i-preserved : goal.loop-i-preserved
loop-i-preserved c =
    links_step c.args.ids.now c.args.items.now c.loop-i.i c.index-items-i.result c.loop-i.pairs.items c.add_links.new.pairs.items c.loop-i.invariant c.loop-i-test.true c.index-items-i.is c.in_ok-add_links.ensures
