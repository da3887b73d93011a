use Rattle.std.proofs.Common.{◌∙◌, arith}
use Rattle.hf_derived.proofs.Overlays.{overlay_only, finds}
use Rattle.hf_derived.proofs.overlay.overlay_of.Goals as goal

pub returns-clause-found : goal.returns-clause-found
returns-clause-found c = λ bytes size same. finds c.args.inputs bytes c.args.front.now c.overlay_in.result same (λ i. omega (arith, c.type_inv.front i)) (c.overlay_in.ensures bytes size same)

pub returns-clause-only : goal.returns-clause-only
returns-clause-only c = λ bytes size same overlay h. c.overlay_in.ensures bytes size same ∙ overlay_only bytes c.args.inputs overlay h
