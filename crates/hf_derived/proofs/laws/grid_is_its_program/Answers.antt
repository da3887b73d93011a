use Rattle.hf_derived.proofs.Grids.{grid_only, grid_found}
use Rattle.hf_derived.proofs.Sides.{IsBytes-take}
use Rattle.hf_derived.proofs.laws.grid_is_its_program.Goals as goal

pub returns : goal.returns
returns c = λ bytes grid fits. (grid_only bytes grid, grid_found bytes grid (IsBytes-take 12 bytes fits))
