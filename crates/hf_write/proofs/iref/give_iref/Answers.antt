use Rattle.std.proofs.Common.{refl, sym, ap, ◌∙◌, arith}
use Rattle.hf_desk.proofs.Paging.{gives_as, gives_then, gives_stops, gives_nothing}
use Rattle.hf_desk.specs.Pages.{ByPut}
use Rattle.hf_box.specs.Literals.{four}
use Rattle.hf_links.specs.Iref.{iref_body}
use Rattle.hf_store.specs.Layout.{is_wide, all_boxes}
use Rattle.hf_write.proofs.Files.{iref_whole}
use Rattle.hf_write.proofs.Sized.{absent, iref_size, iref_sized}
use Rattle.hf_write.proofs.iref.give_iref.Goals as goal

pub give_header-requires-clause-whole : goal.give_header-requires-clause-whole
give_header-requires-clause-whole g c = omega (arith, (iref_sized c.args.store.now c.args.plan.now c.valid.ensures c.requires.plan (λ none. omega (arith, c.if-size-eq0.false, ap (λ z. z.iref) c.sizes-size.ensures, none))).1, ap (λ z. z.iref) c.sizes-size.ensures)

pub give_header-requires-clause-few : goal.give_header-requires-clause-few
give_header-requires-clause-few g c = omega (arith, (iref_sized c.args.store.now c.args.plan.now c.valid.ensures c.requires.plan (λ none. omega (arith, c.if-size-eq0.false, ap (λ z. z.iref) c.sizes-size.ensures, none))).2, ap (λ z. z.iref) c.sizes-size.ensures)

pub returns-in_err-give_header : goal.returns-in_err-give_header
returns-in_err-give_header g c = gives_as (iref_whole c.args.store.now _ c.args.plan.now.sizes.iref _ (c.wide-wide.ensures ∙ c.requires.plan.wide) refl (iref_size c.args.store.now c.args.plan.now c.valid.ensures c.requires.plan) (λ none. omega (arith, c.if-size-eq0.false, ap (λ z. z.iref) c.sizes-size.ensures, none))) (gives_stops _ refl c.from_residual.ensures.0 (c.in_err-give_header.ensures.gives _ ((iref_sized c.args.store.now c.args.plan.now c.valid.ensures c.requires.plan (λ none. omega (arith, c.if-size-eq0.false, ap (λ z. z.iref) c.sizes-size.ensures, none))).0 ∙ sym (ap (λ z. z.iref) c.sizes-size.ensures))))

pub returns-in_err-give : goal.returns-in_err-give
returns-in_err-give g c = gives_as (iref_whole c.args.store.now _ c.args.plan.now.sizes.iref _ (c.wide-wide.ensures ∙ c.requires.plan.wide) c.front_of.ensures (iref_size c.args.store.now c.args.plan.now c.valid.ensures c.requires.plan) (λ none. omega (arith, c.if-size-eq0.false, ap (λ z. z.iref) c.sizes-size.ensures, none))) (gives_then (c.in_ok-give_header.ensures.gives _ ((iref_sized c.args.store.now c.args.plan.now c.valid.ensures c.requires.plan (λ none. omega (arith, c.if-size-eq0.false, ap (λ z. z.iref) c.sizes-size.ensures, none))).0 ∙ sym (ap (λ z. z.iref) c.sizes-size.ensures))) (gives_stops _ refl c.from_residual-in_err-give.ensures.0 c.in_err-give.ensures.gives))

pub returns : goal.returns
returns g c = gives_as (iref_whole c.args.store.now _ c.args.plan.now.sizes.iref _ (c.wide-wide.ensures ∙ c.requires.plan.wide) c.front_of.ensures (iref_size c.args.store.now c.args.plan.now c.valid.ensures c.requires.plan) (λ none. omega (arith, c.if-size-eq0.false, ap (λ z. z.iref) c.sizes-size.ensures, none))) (gives_then (c.in_ok-give_header.ensures.gives _ ((iref_sized c.args.store.now c.args.plan.now c.valid.ensures c.requires.plan (λ none. omega (arith, c.if-size-eq0.false, ap (λ z. z.iref) c.sizes-size.ensures, none))).0 ∙ sym (ap (λ z. z.iref) c.sizes-size.ensures))) (gives_then c.in_ok-give.ensures.gives c.give_all_refs.ensures))

pub returns-then-size-eq0 : goal.returns-then-size-eq0
returns-then-size-eq0 g c =
    gives_as (absent (four "iref") (iref_body (is_wide c.args.store.now.items)) (all_boxes c.args.store.now.items) c.args.plan.now.sizes.iref refl (iref_size c.args.store.now c.args.plan.now c.valid.ensures c.requires.plan) (omega (arith, c.if-size-eq0.true, ap (λ z. z.iref) c.sizes-size.ensures)))
    (gives_nothing ByPut _ _)
