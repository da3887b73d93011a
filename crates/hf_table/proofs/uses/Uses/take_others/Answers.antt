use Rattle.std.proofs.Common.{◌∙◌, [], ◌∷◌, List, sym, subst}
use Rattle.hf_table.specs.Held.{props_of_others}
use Rattle.hf_table.specs.Uses.{Use, Gains, Holds}
use Rattle.hf_table.proofs.Lists.{taken-holds, taken-more, gains-none}
use Rattle.hf_table.proofs.Others.{others-join, others-one, others-none}
use Rattle.hf_table.proofs.uses.Uses.take_others.Goals as goal
use Rattle.hf_table.proofs.uses.Uses.take_others.Goals.{then-not-stays, else-not-stays}

pub take_all-requires : goal.take_all-requires
take_all-requires g c =
    let id_of = g.H.Holder.id_of in
    let props_of = g.H.Holder.props_of in
    let ids = c.args.ids.now in
    let i = c.item-item.result in
    let others_of = props_of_others id_of props_of ids in
    let held =
    taken-holds others_of (others-join id_of props_of ids) c.args.items.now c.loop-item.item-index i c.loop-item-test.true c.item-item.is c.args.self.now
    c.loop-item.self c.requires.held c.loop-item.invariant in
    subst (Holds c.loop-item.self) (others-one id_of props_of ids i c.id.result c.id.ensures (c.if-not-stays.ensures c.requires.rises) ∙ sym c.props.ensures)
    held

pub loop-item-preserved : goal.loop-item-preserved
loop-item-preserved g c =
    let id_of = g.H.Holder.id_of in
    let props_of = g.H.Holder.props_of in
    let ids = c.args.ids.now in
    let i = c.item-item.result in
    let others_of = props_of_others id_of props_of ids in
    let more = λ (us : List Use) (next : Gains us (others_of (i ∷ [])) c.loop-item.self).
    taken-more others_of (others-join id_of props_of ids) c.args.items.now c.loop-item.item-index i c.loop-item-test.true c.item-item.is c.args.self.now
    c.loop-item.self us c.loop-item.invariant next in
    elim c.if-not-stays.branch [
      | then-not-stays w ↦
          let taken : Gains w.take_all.new.self (others_of (i ∷ [])) c.loop-item.self =
          subst (λ ps. Gains w.take_all.new.self ps c.loop-item.self)
          (w.props.ensures ∙ sym (others-one id_of props_of ids i c.id.result c.id.ensures (w.if-not-stays.ensures c.requires.rises))) w.take_all.ensures in
          more c.if-not-stays.self (subst (λ us. Gains us (others_of (i ∷ [])) c.loop-item.self) (sym w.self-is) taken)
      | else-not-stays w ↦
          let stays : Gains c.loop-item.self (others_of (i ∷ [])) c.loop-item.self =
          subst (λ ps. Gains c.loop-item.self ps c.loop-item.self)
          (sym (others-none id_of props_of ids i c.id.result c.id.ensures (w.if-not-stays.ensures c.requires.rises))) (gains-none c.loop-item.self) in
          more c.if-not-stays.self (subst (λ us. Gains us (others_of (i ∷ [])) c.loop-item.self) (sym w.self-is) stays)
    ]
