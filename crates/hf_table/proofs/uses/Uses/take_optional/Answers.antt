use Rattle.std.proofs.Common.{[], ◌∷◌, sym, subst}
use Rattle.hf_table.specs.Held.{optional_of}
use Rattle.hf_table.specs.Uses.{Gains, Holds}
use Rattle.hf_table.proofs.Lists.{holds-one, taken-holds, taken-more, optional-join, optional-one, optional-none, gains-none}
use Rattle.hf_table.proofs.uses.Uses.take_optional.Goals as goal
use Rattle.hf_table.proofs.uses.Uses.take_optional.Goals.{then-is_optional, else-is_optional}

pub take-requires : goal.take-requires
take-requires c =
    let kind = c.args.kind in
    let h = c.held-item.result in
    let held =
    taken-holds (optional_of kind) (optional-join kind) c.args.props.now c.loop-held.held-index h c.loop-held-test.true c.held-item.is c.args.self.now
    c.loop-held.self c.requires c.loop-held.invariant in
    holds-one c.loop-held.self h.prop (subst (Holds c.loop-held.self) (optional-one kind h (sym c.if-is_optional.ensures)) held)

pub loop-held-preserved : goal.loop-held-preserved
loop-held-preserved c =
    let kind = c.args.kind in
    let h = c.held-item.result in
    let more = λ (us : _) (next : Gains us (optional_of kind (h ∷ [])) c.loop-held.self).
    taken-more (optional_of kind) (optional-join kind) c.args.props.now c.loop-held.held-index h c.loop-held-test.true c.held-item.is c.args.self.now
    c.loop-held.self us c.loop-held.invariant next in
    elim c.if-is_optional.branch [
      | then-is_optional w ↦ more c.if-is_optional.self
          (subst (λ us. Gains us (optional_of kind (h ∷ [])) c.loop-held.self) (sym w.self-is)
          (subst (λ ps. Gains w.take.new.self ps c.loop-held.self) (sym (optional-one kind h (sym w.if-is_optional.ensures))) w.take.ensures))
      | else-is_optional w ↦ more c.if-is_optional.self
          (subst (λ us. Gains us (optional_of kind (h ∷ [])) c.loop-held.self) (sym w.self-is)
          (subst (λ ps. Gains c.loop-held.self ps c.loop-held.self) (sym (optional-none kind h (sym w.if-is_optional.ensures))) (gains-none c.loop-held.self)))
    ]
