use Rattle.std.proofs.Common.{◌∙◌, arith}
use Rattle.std.proofs.lemmas.List.{length-map}
use Rattle.hf_links.specs.Grpl.{group_of, groups_of}
use Rattle.hf_store.specs.Sizes.{group_size, IsFourGroup}
use Rattle.hf_store.proofs.Mapped.{here_at}
use Rattle.hf_store.proofs.Measured.{view-next}
use Rattle.hf_store.proofs.Spots.{get_map, holds_here}
use Rattle.hf_store.proofs.Tallied.{sum-all}
use Rattle.hf_store.proofs.measuring.groups_size.Goals as goal

pub loop-group-preserved : goal.loop-group-preserved
loop-group-preserved c =
    let gs = c.args.groups.now in
    let k = c.loop-group.group-index in
    let g = c.group-item.result in
    let four = holds_here IsFourGroup (groups_of gs) k (group_of g) c.requires (get_map group_of gs k g (here_at gs k g c.loop-group-test.true c.group-item.is)) in
    view-next group_of group_size gs k g c.loop-group.sum c.group_size.result c.saturating_add-sum.result c.loop-group-test.true c.group-item.is c.loop-group.invariant (c.group_size.ensures four) c.saturating_add-sum.ensures

pub returns : goal.returns
returns c = c.loop-group.invariant ∙ sum-all group_size (groups_of c.args.groups.now) c.loop-group.group-index (omega (arith, c.loop-group-test.false, length-map c.args.groups.now group_of))
