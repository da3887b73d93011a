use Rattle.std.proofs.Common.{[], ◌∷◌, sym, subst}
use Rattle.hf_table.specs.Held.{of_kind}
use Rattle.hf_table.specs.Uses.{Gains, Holds}
use Rattle.hf_table.proofs.Lists.{holds-one, taken-holds, taken-more, kinds-join, kind-one, kind-none, gains-none}
use Rattle.hf_table.proofs.uses.Uses.take_kind.Goals as goal
use Rattle.hf_table.proofs.uses.Uses.take_kind.Goals.{then-is_of_kind, else-is_of_kind}

pub take-requires : goal.take-requires
take-requires c =
    let kind = c.args.kind in
    let h = c.held-item.result in
    let held =
    taken-holds (of_kind kind) (kinds-join kind) c.args.props.now c.loop-held.held-index h c.loop-held-test.true c.held-item.is c.args.self.now
    c.loop-held.self c.requires c.loop-held.invariant in
    holds-one c.loop-held.self h.prop (subst (Holds c.loop-held.self) (kind-one kind h (sym c.if-is_of_kind.ensures)) held)

pub loop-held-preserved : goal.loop-held-preserved
loop-held-preserved c =
    let kind = c.args.kind in
    let h = c.held-item.result in
    let more = λ (us : _) (next : Gains us (of_kind kind (h ∷ [])) c.loop-held.self).
    taken-more (of_kind kind) (kinds-join kind) c.args.props.now c.loop-held.held-index h c.loop-held-test.true c.held-item.is c.args.self.now
    c.loop-held.self us c.loop-held.invariant next in
    elim c.if-is_of_kind.branch [
      | then-is_of_kind w ↦ more c.if-is_of_kind.self
          (subst (λ us. Gains us (of_kind kind (h ∷ [])) c.loop-held.self) (sym w.self-is)
          (subst (λ ps. Gains w.take.new.self ps c.loop-held.self) (sym (kind-one kind h (sym w.if-is_of_kind.ensures))) w.take.ensures))
      | else-is_of_kind w ↦ more c.if-is_of_kind.self
          (subst (λ us. Gains us (of_kind kind (h ∷ [])) c.loop-held.self) (sym w.self-is)
          (subst (λ ps. Gains c.loop-held.self ps c.loop-held.self) (sym (kind-none kind h (sym w.if-is_of_kind.ensures))) (gains-none c.loop-held.self)))
    ]
