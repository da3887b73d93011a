use Rattle.std.proofs.Common.{ap, sym, ◌∙◌}
use Rattle.hf_pieces.specs.Bytes.{joined}
use Rattle.hf_derived.proofs.FitLemmas.{has_cells, fits-grid, fits-overlay}
use Rattle.std.specs.Prelude.{is_some}
use Rattle.hf_derived.proofs.fitting.fits.Goals as goal

pub returns-in-Some : goal.returns-in-Some
returns-in-Some c = ap (λ o. has_cells o c.args.inputs) c.in-Some.ensures.exact ∙ sym (fits-grid c.args.kind (joined c.args.body.now) c.args.inputs (c.is.ensures.0 c.if-is.true))

pub returns-in-None : goal.returns-in-None
returns-in-None c = ap (λ o. has_cells o c.args.inputs) c.in-None.ensures.exact ∙ sym (fits-grid c.args.kind (joined c.args.body.now) c.args.inputs (c.is.ensures.0 c.if-is.true))

pub returns-then-is-2 : goal.returns-then-is-2
returns-then-is-2 c = c.is_some.ensures ∙ ap (λ o. is_some o) c.read_overlay.ensures.exact ∙ sym (fits-overlay c.args.kind (joined c.args.body.now) c.args.inputs (c.is-2.ensures.0 c.if-is-2.true))
