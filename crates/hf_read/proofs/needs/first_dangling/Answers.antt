use Rattle.std.proofs.Common.{sym, ◌∙◌}
use Rattle.hf_base.specs.declared.loc.RefBox.{RefBox}
use Rattle.hf_read.proofs.LeastLaws.{dangles, none_yet, least_more, least_same}
use Rattle.hf_read.proofs.needs.first_dangling.Goals as goal
use Rattle.hf_read.proofs.needs.first_dangling.Goals.{then-lacks_item, else-lacks_item}

pub loop-link-init : goal.loop-link-init
loop-link-init c = sym (none_yet c.args.ids.now)

pub loop-link-preserved : goal.loop-link-preserved
loop-link-preserved c =
    let key = λ (r : RefBox). r.from in
    let bad = dangles c.args.ids.now in
    elim c.if-lacks_item.branch [
      | then-lacks_item w ↦
          w.least-is
          ∙ least_more key bad c.args.ids.now c.args.links.now c.requires c.loop-link-test.true c.link-item.is
          (sym c.lacks_item.ensures ∙ w.if-lacks_item.true) c.loop-link.invariant w.unwrap_or.ensures w.min.ensures
      | else-lacks_item w ↦
          w.least-is
          ∙ c.loop-link.invariant
          ∙ least_same key bad c.args.ids.now c.args.links.now c.loop-link-test.true c.link-item.is (sym c.lacks_item.ensures ∙ w.if-lacks_item.false)
    ]
