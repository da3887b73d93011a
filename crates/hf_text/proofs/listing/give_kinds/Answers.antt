use Rattle.std.proofs.Common.{ap, sym, ◌∙◌, refl, arith, ◌++◌, drop}
use Rattle.hf_text.specs.Lines.{type_field}
use Rattle.hf_text.specs.Listing.{brand_fields}
use Rattle.hf_text.proofs.Left.{leaves_less, leaves_stop, leaves_none, leaves_as, cut_rest}
use Rattle.hf_text.proofs.Strings.{brands-more, brands-none}
use Rattle.hf_text.proofs.listing.give_kinds.Goals as goal

pub returns-in_err-give_kind : goal.returns-in_err-give_kind
returns-in_err-give_kind g c =
    let rest = c.loop-rest.rest.now in
    leaves_stop _ _ _ (brands-more rest (omega (arith, c.loop-rest-test.true)) ∙ ap (λ k. type_field k ++ brand_fields (drop 4 rest)) (sym c.four_at.ensures)) refl c.from_residual.ensures.0 c.loop-rest.invariant c.in_err-give_kind.ensures

pub loop-rest-preserved : goal.loop-rest-preserved
loop-rest-preserved g c =
    let rest = c.loop-rest.rest.now in
    leaves_as (ap brand_fields (cut_rest 4 rest))
    (leaves_less _ _ _ (brands-more rest (omega (arith, c.loop-rest-test.true)) ∙ ap (λ k. type_field k ++ brand_fields (drop 4 rest)) (sym c.four_at.ensures)) c.loop-rest.invariant c.in_ok-give_kind.ensures)

pub returns : goal.returns
returns g c = leaves_none (brands-none c.loop-rest.rest.now (λ more. omega (arith, c.loop-rest-test.false, more))) c.loop-rest.invariant
