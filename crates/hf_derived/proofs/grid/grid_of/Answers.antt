use Rattle.std.proofs.Common.{◌∙◌, arith}
use Rattle.hf_derived.proofs.Grids.{grid_only, reads, finds}
use Rattle.hf_derived.proofs.grid.grid_of.Goals as goal

pub returns-clause-found : goal.returns-clause-found
returns-clause-found c = λ bytes same. finds bytes c.args.front.now c.grid_in.result same (λ i. omega (arith, c.type_inv.front i)) (reads bytes c.args.front.now c.grid_in.result same c.grid_in.ensures)

pub returns-clause-only : goal.returns-clause-only
returns-clause-only c = λ bytes same grid h. reads bytes c.args.front.now c.grid_in.result same c.grid_in.ensures ∙ grid_only bytes grid h

pub returns-clause-exact : goal.returns-clause-exact
returns-clause-exact c = λ bytes same. reads bytes c.args.front.now c.grid_in.result same c.grid_in.ensures
