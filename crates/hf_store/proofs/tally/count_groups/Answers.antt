use Rattle.std.proofs.Common.{◌∙◌, arith}
use Rattle.hf_store.proofs.Tallied.{groups-next, groups-all}
use Rattle.hf_store.proofs.tally.count_groups.Goals as goal

pub loop-group-preserved : goal.loop-group-preserved
loop-group-preserved c =
    c.plus-counts.ensures ∙ groups-next c.args.groups.now c.loop-group.group-index c.group-item.result c.loop-group.counts c.count_group.result (omega arith) c.group-item.is c.loop-group.invariant c.count_group.ensures

pub returns : goal.returns
returns c = c.loop-group.invariant ∙ groups-all c.args.groups.now c.loop-group.group-index (omega arith)
