use Rattle.std.proofs.Common.{refl, sym, ap, ◌∙◌, arith}
use Rattle.hf_desk.proofs.Paging.{gives_as, gives_then, gives_stops, gives_nothing}
use Rattle.hf_desk.specs.Pages.{ByPut}
use Rattle.hf_box.specs.Literals.{four}
use Rattle.hf_links.specs.Grpl.{grpl_body}
use Rattle.hf_write.proofs.Files.{grpl_whole}
use Rattle.hf_write.proofs.Sized.{absent, grpl_size, grpl_sized}
use Rattle.hf_write.proofs.grpl.give_grpl.Goals as goal

pub give_header-requires-clause-whole : goal.give_header-requires-clause-whole
give_header-requires-clause-whole g c = omega (arith, (grpl_sized c.args.store.now c.args.plan.now c.valid.ensures c.requires.plan (λ none. omega (arith, c.if-size-eq0.false, ap (λ z. z.grpl) c.sizes-size.ensures, none))).1, ap (λ z. z.grpl) c.sizes-size.ensures)

pub give_header-requires-clause-few : goal.give_header-requires-clause-few
give_header-requires-clause-few g c = omega (arith, (grpl_sized c.args.store.now c.args.plan.now c.valid.ensures c.requires.plan (λ none. omega (arith, c.if-size-eq0.false, ap (λ z. z.grpl) c.sizes-size.ensures, none))).2, ap (λ z. z.grpl) c.sizes-size.ensures)

pub returns-in_err-give_header : goal.returns-in_err-give_header
returns-in_err-give_header g c = gives_as (grpl_whole c.args.store.now c.args.plan.now.sizes.grpl (grpl_size c.args.store.now c.args.plan.now c.valid.ensures c.requires.plan) (λ none. omega (arith, c.if-size-eq0.false, ap (λ z. z.grpl) c.sizes-size.ensures, none))) (gives_stops _ refl c.from_residual.ensures.0 (c.in_err-give_header.ensures.gives _ ((grpl_sized c.args.store.now c.args.plan.now c.valid.ensures c.requires.plan (λ none. omega (arith, c.if-size-eq0.false, ap (λ z. z.grpl) c.sizes-size.ensures, none))).0 ∙ sym (ap (λ z. z.grpl) c.sizes-size.ensures))))

pub returns : goal.returns
returns g c = gives_as (grpl_whole c.args.store.now c.args.plan.now.sizes.grpl (grpl_size c.args.store.now c.args.plan.now c.valid.ensures c.requires.plan) (λ none. omega (arith, c.if-size-eq0.false, ap (λ z. z.grpl) c.sizes-size.ensures, none))) (gives_then (c.in_ok-give_header.ensures.gives _ ((grpl_sized c.args.store.now c.args.plan.now c.valid.ensures c.requires.plan (λ none. omega (arith, c.if-size-eq0.false, ap (λ z. z.grpl) c.sizes-size.ensures, none))).0 ∙ sym (ap (λ z. z.grpl) c.sizes-size.ensures))) c.give_groups.ensures)

pub returns-then-size-eq0 : goal.returns-then-size-eq0
returns-then-size-eq0 g c =
    gives_as (absent (four "grpl") grpl_body c.args.store.now.groups c.args.plan.now.sizes.grpl refl (grpl_size c.args.store.now c.args.plan.now c.valid.ensures c.requires.plan) (omega (arith, c.if-size-eq0.true, ap (λ z. z.grpl) c.sizes-size.ensures)))
    (gives_nothing ByPut _ _)
