use Rattle.std.proofs.Common.{refl, sym, ap, ◌∙◌, arith}
use Rattle.hf_desk.proofs.Paging.{gives_as, gives_then, gives_stops, gives_nothing}
use Rattle.hf_desk.specs.Pages.{ByPut}
use Rattle.hf_box.specs.Literals.{four}
use Rattle.std.proofs.Common.{filter}
use Rattle.hf_store.specs.Layout.{bytes_in, in_idat}
use Rattle.hf_write.proofs.Files.{idat_whole}
use Rattle.hf_write.proofs.Sized.{absent, idat_size, idat_sized}
use Rattle.hf_write.proofs.idat.give_idat.Goals as goal

pub give_header-requires-clause-whole : goal.give_header-requires-clause-whole
give_header-requires-clause-whole g c = omega (arith, (idat_sized c.args.store.now c.args.plan.now c.valid.ensures c.requires.plan (λ none. omega (arith, c.if-size-eq0.false, ap (λ z. z.idat) c.sizes-size.ensures, none))).1, ap (λ z. z.idat) c.sizes-size.ensures)

pub give_header-requires-clause-few : goal.give_header-requires-clause-few
give_header-requires-clause-few g c = omega (arith, (idat_sized c.args.store.now c.args.plan.now c.valid.ensures c.requires.plan (λ none. omega (arith, c.if-size-eq0.false, ap (λ z. z.idat) c.sizes-size.ensures, none))).2, ap (λ z. z.idat) c.sizes-size.ensures)

pub returns-in_err-give_header : goal.returns-in_err-give_header
returns-in_err-give_header g c = gives_as (idat_whole c.args.store.now c.args.plan.now.sizes.idat (idat_size c.args.store.now c.args.plan.now c.valid.ensures c.requires.plan) (λ none. omega (arith, c.if-size-eq0.false, ap (λ z. z.idat) c.sizes-size.ensures, none))) (gives_stops _ refl c.from_residual.ensures.0 (c.in_err-give_header.ensures.gives _ ((idat_sized c.args.store.now c.args.plan.now c.valid.ensures c.requires.plan (λ none. omega (arith, c.if-size-eq0.false, ap (λ z. z.idat) c.sizes-size.ensures, none))).0 ∙ sym (ap (λ z. z.idat) c.sizes-size.ensures))))

pub returns : goal.returns
returns g c = gives_as (idat_whole c.args.store.now c.args.plan.now.sizes.idat (idat_size c.args.store.now c.args.plan.now c.valid.ensures c.requires.plan) (λ none. omega (arith, c.if-size-eq0.false, ap (λ z. z.idat) c.sizes-size.ensures, none))) (gives_then (c.in_ok-give_header.ensures.gives _ ((idat_sized c.args.store.now c.args.plan.now c.valid.ensures c.requires.plan (λ none. omega (arith, c.if-size-eq0.false, ap (λ z. z.idat) c.sizes-size.ensures, none))).0 ∙ sym (ap (λ z. z.idat) c.sizes-size.ensures))) c.give_bodies.ensures)

pub returns-then-size-eq0 : goal.returns-then-size-eq0
returns-then-size-eq0 g c =
    gives_as (absent (four "idat") bytes_in (filter in_idat c.args.store.now.items) c.args.plan.now.sizes.idat refl (idat_size c.args.store.now c.args.plan.now c.valid.ensures c.requires.plan) (omega (arith, c.if-size-eq0.true, ap (λ z. z.idat) c.sizes-size.ensures)))
    (gives_nothing ByPut _ _)
