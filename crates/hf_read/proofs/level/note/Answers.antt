use Rattle.std.proofs.Common.{sym, ◌∙◌, ◌++◌, ◌∷◌, [], subst, List}
use Rattle.hf_base.specs.declared.four.FourCc.{FourCc}
use Rattle.hf_box.specs.Boxes.{box_of}
use Rattle.hf_read.specs.Level.{Knows}
use Rattle.hf_read.proofs.LoopLemmas.{knows_more, knows_still}
use Rattle.hf_read.proofs.level.note.Goals as goal

pub returns-then-not-is_among-clause-keeps : goal.returns-then-not-is_among-clause-keeps
returns-then-not-is_among-clause-keeps c = λ before knows. knows_still c.args.once.now c.args.seen.now.items before (box_of c.args.b.now) (sym c.is_among.ensures ∙ c.if-not-is_among.true) knows

pub returns-clause-keeps : goal.returns-clause-keeps
returns-clause-keeps c = λ before knows. subst (λ (l : List FourCc). Knows c.args.once.now l (before ++ box_of c.args.b.now ∷ [])) (sym c.in_ok-push.ensures.items) (knows_more c.args.once.now c.args.seen.now.items before (box_of c.args.b.now) knows)
