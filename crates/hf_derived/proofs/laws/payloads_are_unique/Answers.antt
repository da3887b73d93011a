use Rattle.hf_derived.proofs.Grids.{one_grid}
use Rattle.hf_derived.proofs.Overlays.{one_overlay}
use Rattle.hf_derived.proofs.laws.payloads_are_unique.Goals as goal

pub returns : goal.returns
returns c = record { grid = one_grid; overlay = one_overlay }
