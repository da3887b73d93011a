use Rattle.std.proofs.Common.{refl, sym, ap, ◌∙◌, arith}
use Rattle.hf_desk.proofs.Paging.{gives_as, gives_then, gives_stops}
use Rattle.std.proofs.lemmas.List.{length-map}
use Rattle.hf_store.specs.Layout.{is_wide, info_of, infos_of}
use Rattle.hf_write.proofs.Files.{iinf_whole}
use Rattle.hf_write.proofs.Fits.{items_fit}
use Rattle.hf_write.proofs.Sized.{iinf_sized}
use Rattle.hf_write.proofs.iinf.give_iinf.Goals as goal

pub give_header-requires-clause-whole : goal.give_header-requires-clause-whole
give_header-requires-clause-whole g c = omega (arith, (iinf_sized c.args.store.now c.args.plan.now c.len-count.ensures.valid c.requires.plan).1, ap (λ z. z.iinf) c.sizes.ensures)

pub give_header-requires-clause-few : goal.give_header-requires-clause-few
give_header-requires-clause-few g c = omega (arith, (iinf_sized c.args.store.now c.args.plan.now c.len-count.ensures.valid c.requires.plan).2, ap (λ z. z.iinf) c.sizes.ensures)

pub give_count-requires-clause-fits : goal.give_count-requires-clause-fits
give_count-requires-clause-fits g c = omega (arith, items_fit c.args.store.now _ c.len-count.ensures.valid (c.wide-ids.ensures ∙ c.requires.plan.wide), c.len-count.ensures.count)

pub returns-in_err-give_header : goal.returns-in_err-give_header
returns-in_err-give_header g c = gives_as (iinf_whole (is_wide c.args.store.now.items) _ (infos_of c.args.store.now.items) _ _ refl (c.len-count.ensures.count ∙ sym (length-map c.args.store.now.items info_of)) (c.wide-ids.ensures ∙ c.requires.plan.wide)) (gives_stops _ refl c.from_residual.ensures.0 (c.in_err-give_header.ensures.gives _ ((iinf_sized c.args.store.now c.args.plan.now c.len-count.ensures.valid c.requires.plan).0 ∙ sym (ap (λ z. z.iinf) c.sizes.ensures))))

pub returns-in_err-give_count : goal.returns-in_err-give_count
returns-in_err-give_count g c = gives_as (iinf_whole (is_wide c.args.store.now.items) _ (infos_of c.args.store.now.items) _ _ refl (c.len-count.ensures.count ∙ sym (length-map c.args.store.now.items info_of)) (c.wide-ids.ensures ∙ c.requires.plan.wide)) (gives_then (c.in_ok-give_header.ensures.gives _ ((iinf_sized c.args.store.now c.args.plan.now c.len-count.ensures.valid c.requires.plan).0 ∙ sym (ap (λ z. z.iinf) c.sizes.ensures))) (gives_stops _ refl c.from_residual-in_err-give_count.ensures.0 c.in_err-give_count.ensures))

pub returns : goal.returns
returns g c = gives_as (iinf_whole (is_wide c.args.store.now.items) _ (infos_of c.args.store.now.items) _ _ refl (c.len-count.ensures.count ∙ sym (length-map c.args.store.now.items info_of)) (c.wide-ids.ensures ∙ c.requires.plan.wide)) (gives_then (c.in_ok-give_header.ensures.gives _ ((iinf_sized c.args.store.now c.args.plan.now c.len-count.ensures.valid c.requires.plan).0 ∙ sym (ap (λ z. z.iinf) c.sizes.ensures))) (gives_then c.in_ok-give_count.ensures c.give_infes.ensures))
