use Rattle.hf_derived.proofs.Overlays.{overlay_only, overlay_found}
use Rattle.hf_derived.proofs.Sides.{IsBytes-take}
use Rattle.hf_derived.proofs.laws.overlay_is_its_program.Goals as goal

pub returns : goal.returns
returns c = λ bytes inputs overlay fits. (overlay_only bytes inputs overlay, overlay_found bytes inputs overlay (IsBytes-take 18 bytes fits))
