use Rattle.std.proofs.Common.{refl}
use Rattle.hf_base.specs.Number.{number}
use Rattle.hf_derived.specs.Grid.{grid_at}
use Rattle.hf_derived.specs.Overlay.{overlay_at}
use Rattle.hf_derived.proofs.worked.payloads_say_their_fields.Goals as goal

pub returns : goal.returns
unfolding number grid_at overlay_at
returns c = record { grid = refl; long_grid = refl; no_grid = refl; overlay = refl; overlay_cut = refl; long_overlay = refl }
