use Rattle.std.proofs.Common.{refl, sym, ap, ◌∙◌, arith}
use Rattle.hf_desk.proofs.Paging.{gives_as, gives_then, gives_stops}
use Rattle.hf_write.proofs.Files.{mdat_whole}
use Rattle.hf_write.proofs.Sized.{mdat_sized}
use Rattle.hf_write.proofs.mdat.give_mdat.Goals as goal

pub give_header-requires-clause-whole : goal.give_header-requires-clause-whole
give_header-requires-clause-whole g c = omega (arith, (mdat_sized c.args.store.now c.args.plan.now c.valid.ensures c.requires.plan).1, ap (λ z. z.mdat) c.sizes.ensures)

pub give_header-requires-clause-few : goal.give_header-requires-clause-few
give_header-requires-clause-few g c = omega (arith, (mdat_sized c.args.store.now c.args.plan.now c.valid.ensures c.requires.plan).2, ap (λ z. z.mdat) c.sizes.ensures)

pub returns-in_err-give_header : goal.returns-in_err-give_header
returns-in_err-give_header g c = gives_as (mdat_whole c.args.store.now) (gives_stops _ refl c.from_residual.ensures.0 (c.in_err-give_header.ensures.gives _ ((mdat_sized c.args.store.now c.args.plan.now c.valid.ensures c.requires.plan).0 ∙ sym (ap (λ z. z.mdat) c.sizes.ensures))))

pub returns : goal.returns
returns g c = gives_as (mdat_whole c.args.store.now) (gives_then (c.in_ok-give_header.ensures.gives _ ((mdat_sized c.args.store.now c.args.plan.now c.valid.ensures c.requires.plan).0 ∙ sym (ap (λ z. z.mdat) c.sizes.ensures))) c.give_bodies.ensures)
