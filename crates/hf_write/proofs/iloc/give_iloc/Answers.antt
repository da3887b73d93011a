use Rattle.std.proofs.Common.{refl, sym, ap, ◌∙◌, arith}
use Rattle.hf_desk.proofs.Paging.{gives_as, gives_then, gives_stops}
use Rattle.hf_write.proofs.Files.{iloc_whole, located_is}
use Rattle.hf_write.proofs.Fits.{located_fit}
use Rattle.hf_write.proofs.Sized.{iloc_sized}
use Rattle.hf_write.proofs.iloc.give_iloc.Goals as goal

pub give_header-requires-clause-whole : goal.give_header-requires-clause-whole
give_header-requires-clause-whole g c = omega (arith, (iloc_sized c.args.store.now c.args.plan.now c.counts-count.ensures.valid c.requires.plan).1, ap (λ z. z.iloc) c.sizes.ensures)

pub give_header-requires-clause-few : goal.give_header-requires-clause-few
give_header-requires-clause-few g c = omega (arith, (iloc_sized c.args.store.now c.args.plan.now c.counts-count.ensures.valid c.requires.plan).2, ap (λ z. z.iloc) c.sizes.ensures)

pub give_front-requires-clause-fits : goal.give_front-requires-clause-fits
give_front-requires-clause-fits g c =
    omega (arith, located_fit c.args.store.now _ c.counts-count.ensures.valid (c.wide-ids.ensures ∙ c.requires.plan.wide), located_is c.args.store.now _ c.counts-count.ensures.value)

pub returns-in_err-give_header : goal.returns-in_err-give_header
returns-in_err-give_header g c = gives_as (iloc_whole c.args.store.now c.args.plan.now _ _ _ _ c.wide-ids.ensures c.long-offsets.ensures (located_is c.args.store.now _ c.counts-count.ensures.value) refl) (gives_stops _ refl c.from_residual.ensures.0 (c.in_err-give_header.ensures.gives _ ((iloc_sized c.args.store.now c.args.plan.now c.counts-count.ensures.valid c.requires.plan).0 ∙ sym (ap (λ z. z.iloc) c.sizes.ensures))))

pub returns-in_err-give_front : goal.returns-in_err-give_front
returns-in_err-give_front g c = gives_as (iloc_whole c.args.store.now c.args.plan.now _ _ _ _ c.wide-ids.ensures c.long-offsets.ensures (located_is c.args.store.now _ c.counts-count.ensures.value) refl) (gives_then (c.in_ok-give_header.ensures.gives _ ((iloc_sized c.args.store.now c.args.plan.now c.counts-count.ensures.valid c.requires.plan).0 ∙ sym (ap (λ z. z.iloc) c.sizes.ensures))) (gives_stops _ refl c.from_residual-in_err-give_front.ensures.0 c.in_err-give_front.ensures))

pub returns : goal.returns
returns g c = gives_as (iloc_whole c.args.store.now c.args.plan.now _ _ _ _ c.wide-ids.ensures c.long-offsets.ensures (located_is c.args.store.now _ c.counts-count.ensures.value) refl) (gives_then (c.in_ok-give_header.ensures.gives _ ((iloc_sized c.args.store.now c.args.plan.now c.counts-count.ensures.valid c.requires.plan).0 ∙ sym (ap (λ z. z.iloc) c.sizes.ensures))) (gives_then c.in_ok-give_front.ensures c.give_entries.ensures))
