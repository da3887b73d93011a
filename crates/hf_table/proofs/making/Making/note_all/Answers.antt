use Rattle.std.proofs.Common.{◌≡◌, ◌++◌, ◌∙◌, take, sym, ap, subst}
use Rattle.hf_base.specs.declared.limits.TheConstants.{KINDS}
use Rattle.hf_table.specs.Held.{props_in}
use Rattle.hf_table.specs.Making.{IsMade}
use Rattle.hf_table.proofs.Steps.{few-before, all-more, seen-next, place-here, stands-here}
use Rattle.hf_table.proofs.making.Making.note_all.Goals as goal

pub note-requires : goal.note-requires
note-requires c = few-before c.args.props.now c.loop-j.j c.args.self.now.seen.keys c.loop-j.self.seen.keys KINDS c.loop-j.invariant.seen c.requires

pub loop-j-preserved : goal.loop-j-preserved
loop-j-preserved c =
    let props = c.args.props.now in
    let i = c.args.i in
    let j = c.loop-j.j in
    let h = c.index-props-j.result in
    let p = c.copy.result in
    let within = c.loop-j-test.true in
    let is = c.index-props-j.is in
    let same : p ≡ h.prop = c.copy.ensures ∙ ap (λ g. g.prop) (sym is) in
    record {
      seen = c.in_ok-note.ensures.seen ∙ seen-next props j h within is p same c.args.self.now.seen.keys c.loop-j.self.seen.keys c.loop-j.invariant.seen;
      made = λ lists ps m here at.
          subst (λ qs. IsMade lists qs c.note.new.self) (all-more props j h within is p same ps)
          (c.in_ok-note.ensures.made lists (ps ++ props_in (take j props)) (c.loop-j.invariant.made lists ps m here at)
          (place-here props j h within is p same lists i at ps here) (stands-here props j h within is p same lists i at));
    }
