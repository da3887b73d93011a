use Rattle.std.proofs.Common.{sym, ◌∙◌}
use Rattle.hf_read.proofs.LoopLemmas.{first_here, first_later}
use Rattle.hf_read.proofs.level.first_of.Goals as goal

pub returns-then-eq-clause-first : goal.returns-then-eq-clause-first
returns-then-eq-clause-first c = sym (first_here c.args.kind c.args.boxes.now c.loop-b.b-index _ c.loop-b-test.true c.loop-b.invariant (sym c.eq.ensures ∙ c.if-eq.true))

pub loop-b-preserved : goal.loop-b-preserved
loop-b-preserved c = first_later c.args.kind c.args.boxes.now c.loop-b.b-index _ c.loop-b-test.true c.loop-b.invariant (sym c.eq.ensures ∙ c.if-eq.false)
