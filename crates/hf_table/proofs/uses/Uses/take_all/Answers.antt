use Rattle.hf_table.specs.Held.{props_in}
use Rattle.hf_table.proofs.Lists.{holds-one, taken-holds, taken-more, props-join}
use Rattle.hf_table.proofs.uses.Uses.take_all.Goals as goal

pub take-requires : goal.take-requires
take-requires c =
    holds-one c.loop-held.self c.held-item.result.prop
    (taken-holds props_in props-join c.args.props.now c.loop-held.held-index c.held-item.result c.loop-held-test.true c.held-item.is c.args.self.now
    c.loop-held.self c.requires c.loop-held.invariant)

pub loop-held-preserved : goal.loop-held-preserved
loop-held-preserved c =
    taken-more props_in props-join c.args.props.now c.loop-held.held-index c.held-item.result c.loop-held-test.true c.held-item.is c.args.self.now
    c.loop-held.self c.take.new.self c.loop-held.invariant c.take.ensures
