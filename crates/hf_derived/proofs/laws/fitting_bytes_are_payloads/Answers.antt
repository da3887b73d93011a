use Rattle.hf_derived.proofs.FitLemmas.{grids_fit, overlays_fit, identities_fit, fits-other}
use Rattle.hf_derived.proofs.laws.fitting_bytes_are_payloads.Goals as goal

pub returns : goal.returns
returns c = record { grid = grids_fit; overlay = overlays_fit; identity = identities_fit; others = fits-other }
