use Rattle.hf_derived.proofs.Grids.{grid_again}
use Rattle.hf_derived.proofs.Overlays.{overlay_again}
use Rattle.hf_derived.proofs.laws.written_payloads_come_back.Goals as goal

pub returns : goal.returns
returns c = record { grid = grid_again; overlay = overlay_again }
