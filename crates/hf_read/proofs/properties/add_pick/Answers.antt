use Rattle.std.proofs.Common.{◌∙◌, ◌++◌, arith, inl, inr, ap, sym}
use Rattle.std.proofs.lemmas.List.{append-nil}
use Rattle.hf_read.proofs.AssocLaws.{none_held}
use Rattle.hf_read.proofs.properties.add_pick.Goals as goal
use Rattle.hf_read.proofs.properties.add_pick.Goals.{then-number-eq0-via-then-number-eq0, then-number-eq0-via-else-number-eq0+then-number-len}

pub returns-then-number-eq0 : goal.returns-then-number-eq0
returns-then-number-eq0 c =
    let props = c.args.props.now in
    let pick = c.args.pick.now in
    let none = none_held props pick (elim c.then-number-eq0.branch [
      | then-number-eq0-via-then-number-eq0 w ↦ inl (omega (arith, w.if-number-eq0.true, c.from-number.ensures))
      | then-number-eq0-via-else-number-eq0+then-number-len w ↦ inr (omega (arith, w.if-number-len.true, w.len.ensures, c.from-number.ensures))
    ]) in
    sym (append-nil c.args.held.now) ∙ ap (λ l. c.args.held.now ++ l) (sym none)
