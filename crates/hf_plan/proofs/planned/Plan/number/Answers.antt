use Rattle.std.proofs.Common.{◌≡◌, ℕ, ◌∙◌, sym, subst}
use Rattle.hf_store.proofs.Spots.{at_or, within_at}
use Rattle.hf_plan.specs.Plan.{IsNumber}
use Rattle.hf_plan.proofs.Pieces.{number_at}
use Rattle.hf_plan.proofs.planned.Plan.number.Goals as goal

pub number-requires-clause-item : goal.number-requires-clause-item
number-requires-clause-item c = (number_at c.self.inside c.args.self.now c.args.i c.args.j c.requires.0 c.self.view_is c.requires.1).0

pub number-requires-clause-place : goal.number-requires-clause-place
number-requires-clause-place c =
    let at = number_at c.self.inside c.args.self.now c.args.i c.args.j c.requires.0 c.self.view_is c.requires.1 in
    within_at c.self.inside.table.numbers.items _ c.requires.0 at.1

pub returns : goal.returns
returns c =
    let n = c.requires.0 in
    let at = number_at c.self.inside c.args.self.now c.args.i c.args.j n c.self.view_is c.requires.1 in
    let same : n ≡ c.number.result = sym (c.number.ensures.value ∙ at_or c.self.inside.table.numbers.items _ n 0 at.1) in
    subst (λ (m : ℕ). IsNumber c.args.self.now c.args.i c.args.j m) same c.requires.1
