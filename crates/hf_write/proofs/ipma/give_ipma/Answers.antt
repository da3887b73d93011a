use Rattle.std.proofs.Common.{refl, sym, ap, ◌∙◌, arith}
use Rattle.hf_desk.proofs.Paging.{gives_as, gives_then, gives_stops}
use Rattle.hf_write.proofs.Files.{ipma_whole, holders_is, long_is}
use Rattle.hf_write.proofs.Sized.{ipma_sized}
use Rattle.hf_write.proofs.ipma.give_ipma.Goals as goal

pub give_header-requires-clause-whole : goal.give_header-requires-clause-whole
give_header-requires-clause-whole g c = omega (arith, (ipma_sized c.args.store.now c.args.plan.now c.counts-count.ensures.valid c.requires.plan).1, ap (λ z. z.ipma) c.sizes.ensures)

pub give_header-requires-clause-few : goal.give_header-requires-clause-few
give_header-requires-clause-few g c = omega (arith, (ipma_sized c.args.store.now c.args.plan.now c.counts-count.ensures.valid c.requires.plan).2, ap (λ z. z.ipma) c.sizes.ensures)

pub front_of-requires : goal.front_of-requires
front_of-requires g c = omega (arith, c.counts-count.ensures.few.holders)

pub give_assocs-requires-clause-long : goal.give_assocs-requires-clause-long
give_assocs-requires-clause-long g c = long_is c.args.store.now c.args.plan.now _ c.requires.plan c.kinds-long.ensures

pub returns-in_err-give_header : goal.returns-in_err-give_header
returns-in_err-give_header g c = gives_as (ipma_whole c.args.store.now c.args.plan.now _ _ _ _ c.wide-wide.ensures (long_is c.args.store.now c.args.plan.now _ c.requires.plan c.kinds-long.ensures) (holders_is c.args.store.now _ c.counts-count.ensures.value) refl) (gives_stops _ refl c.from_residual.ensures.0 (c.in_err-give_header.ensures.gives _ ((ipma_sized c.args.store.now c.args.plan.now c.counts-count.ensures.valid c.requires.plan).0 ∙ sym (ap (λ z. z.ipma) c.sizes.ensures))))

pub returns-in_err-give : goal.returns-in_err-give
returns-in_err-give g c = gives_as (ipma_whole c.args.store.now c.args.plan.now _ _ _ _ c.wide-wide.ensures (long_is c.args.store.now c.args.plan.now _ c.requires.plan c.kinds-long.ensures) (holders_is c.args.store.now _ c.counts-count.ensures.value) c.front_of.ensures) (gives_then (c.in_ok-give_header.ensures.gives _ ((ipma_sized c.args.store.now c.args.plan.now c.counts-count.ensures.valid c.requires.plan).0 ∙ sym (ap (λ z. z.ipma) c.sizes.ensures))) (gives_stops _ refl c.from_residual-in_err-give.ensures.0 c.in_err-give.ensures.gives))

pub returns : goal.returns
returns g c = gives_as (ipma_whole c.args.store.now c.args.plan.now _ _ _ _ c.wide-wide.ensures (long_is c.args.store.now c.args.plan.now _ c.requires.plan c.kinds-long.ensures) (holders_is c.args.store.now _ c.counts-count.ensures.value) c.front_of.ensures) (gives_then (c.in_ok-give_header.ensures.gives _ ((ipma_sized c.args.store.now c.args.plan.now c.counts-count.ensures.valid c.requires.plan).0 ∙ sym (ap (λ z. z.ipma) c.sizes.ensures))) (gives_then c.in_ok-give.ensures.gives c.give_assocs.ensures))
