use Rattle.std.proofs.Common.{refl, sym, ap, ◌∙◌, arith}
use Rattle.hf_desk.proofs.Paging.{gives_as, gives_then, gives_stops}
use Rattle.hf_write.proofs.Files.{begin_is}
use Rattle.hf_write.proofs.Fits.{primary_fits}
use Rattle.hf_write.proofs.Sized.{meta_sized}
use Rattle.hf_write.proofs.file.give_meta_begin.Goals as goal

pub give_header-requires-clause-whole : goal.give_header-requires-clause-whole
give_header-requires-clause-whole g c = omega (arith, (meta_sized c.args.store.now c.args.plan.now c.valid.ensures c.requires.plan).1, ap (λ z. z.meta) c.sizes.ensures)

pub give_header-requires-clause-few : goal.give_header-requires-clause-few
give_header-requires-clause-few g c = omega (arith, (meta_sized c.args.store.now c.args.plan.now c.valid.ensures c.requires.plan).2, ap (λ z. z.meta) c.sizes.ensures)

pub give_pitm-requires-clause-fits : goal.give_pitm-requires-clause-fits
give_pitm-requires-clause-fits g c = primary_fits c.args.store.now _ _ c.valid.ensures (c.wide-ids.ensures ∙ c.requires.plan.wide) c.primary-id.ensures

pub returns-in_err-give_header : goal.returns-in_err-give_header
returns-in_err-give_header g c = gives_as (begin_is c.args.store.now c.args.plan.now _ _ _ refl c.wide-ids.ensures c.primary-id.ensures) (gives_stops _ refl c.from_residual.ensures.0 (c.in_err-give_header.ensures.gives _ ((meta_sized c.args.store.now c.args.plan.now c.valid.ensures c.requires.plan).0 ∙ sym (ap (λ z. z.meta) c.sizes.ensures))))

pub returns-in_err-give : goal.returns-in_err-give
returns-in_err-give g c = gives_as (begin_is c.args.store.now c.args.plan.now _ _ _ refl c.wide-ids.ensures c.primary-id.ensures) (gives_then (c.in_ok-give_header.ensures.gives _ ((meta_sized c.args.store.now c.args.plan.now c.valid.ensures c.requires.plan).0 ∙ sym (ap (λ z. z.meta) c.sizes.ensures))) (gives_stops _ refl c.from_residual-in_err-give.ensures.0 c.in_err-give.ensures.gives))

pub returns-in_err-give_hdlr : goal.returns-in_err-give_hdlr
returns-in_err-give_hdlr g c = gives_as (begin_is c.args.store.now c.args.plan.now _ _ _ refl c.wide-ids.ensures c.primary-id.ensures) (gives_then (c.in_ok-give_header.ensures.gives _ ((meta_sized c.args.store.now c.args.plan.now c.valid.ensures c.requires.plan).0 ∙ sym (ap (λ z. z.meta) c.sizes.ensures))) (gives_then c.in_ok-give.ensures.gives (gives_stops _ refl c.from_residual-in_err-give_hdlr.ensures.0 c.in_err-give_hdlr.ensures)))

pub returns : goal.returns
returns g c = gives_as (begin_is c.args.store.now c.args.plan.now _ _ _ refl c.wide-ids.ensures c.primary-id.ensures) (gives_then (c.in_ok-give_header.ensures.gives _ ((meta_sized c.args.store.now c.args.plan.now c.valid.ensures c.requires.plan).0 ∙ sym (ap (λ z. z.meta) c.sizes.ensures))) (gives_then c.in_ok-give.ensures.gives (gives_then c.in_ok-give_hdlr.ensures c.give_pitm.ensures)))
