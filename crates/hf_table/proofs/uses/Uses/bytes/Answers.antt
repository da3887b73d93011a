use Rattle.std.proofs.Common.{◌∙◌, sym, subst}
use Rattle.hf_table.specs.Uses.{Tallies}
use Rattle.hf_table.proofs.Tally.{sizes-tallied}
use Rattle.hf_table.proofs.uses.Uses.bytes.Goals as goal

pub returns-clause-tallied : goal.returns-clause-tallied
returns-clause-tallied c ps t = c.self.invariant.1 ∙ sizes-tallied _ ps c.self.invariant.0 (subst (λ us. Tallies us ps) (sym c.self.view_is) t)
