use Rattle.std.proofs.Common.{ℕ, List, find, sym, ap, ◌∙◌}
use Rattle.std.proofs.lemmas.List.{take_all}
use Rattle.hf_prop.specs.declared.assoc.Assoc.{Assoc}
use Rattle.hf_read.proofs.LeastLaws.{stands, passes, none_yet, least_more, least_same, past_is}
use Rattle.hf_read.proofs.needs.first_past.Goals as goal
use Rattle.hf_read.proofs.needs.first_past.Goals.{then-lacks_property, else-lacks_property}

pub loop-assoc-init : goal.loop-assoc-init
loop-assoc-init c = sym (none_yet c.args.ids.now)

pub loop-assoc-preserved : goal.loop-assoc-preserved
loop-assoc-preserved c =
    let key = λ (a : Assoc). a.item in
    let bad = passes c.len-props.result in
    let assocs = c.as_slice-assocs.result.now in
    elim c.if-lacks_property.branch [
      | then-lacks_property w ↦
          w.least-is
          ∙ least_more key bad c.args.ids.now assocs c.requires c.loop-assoc-test.true c.assoc-item.is
          (sym c.lacks_property.ensures ∙ w.if-lacks_property.true) c.loop-assoc.invariant w.unwrap_or.ensures w.min.ensures
      | else-lacks_property w ↦
          w.least-is
          ∙ c.loop-assoc.invariant
          ∙ least_same key bad c.args.ids.now assocs c.loop-assoc-test.true c.assoc-item.is (sym c.lacks_property.ensures ∙ w.if-lacks_property.false)
    ]

pub returns : goal.returns
returns c =
    let at = λ (assocs : List Assoc). find (stands (λ (a : Assoc). a.item) (passes c.len-props.result) assocs) c.args.ids.now in
    c.loop-assoc.invariant
    ∙ ap at (take_all c.loop-assoc.assoc-index c.as_slice-assocs.result.now c.loop-assoc-test.false ∙ c.as_slice-assocs.ensures)
    ∙ ap (λ (props : ℕ). find (stands (λ (a : Assoc). a.item) (passes props) c.args.iprp.now.assocs) c.args.ids.now) c.len-props.ensures
    ∙ past_is c.args.ids.now c.args.iprp.now
