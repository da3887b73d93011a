use Rattle.std.proofs.Common.{refl, ap, ◌++◌}
use Rattle.std.specs.Prelude.{codes}
use Rattle.hf_desk.proofs.Paging.{gives_as, gives_then, gives_stops, gives_more}
use Rattle.hf_text.specs.Listing.{id_fields, ref_text}
use Rattle.hf_text.proofs.listing.give_ref.Goals as goal

pub returns-in_err-give_text : goal.returns-in_err-give_text
unfolding ref_text
returns-in_err-give_text g c = gives_as (ap (λ l. l ++ id_fields c.args.list.now.to ++ codes "\n") c.words_of_refs-words.ensures) (gives_more _ c.from_residual.ensures.0 (gives_stops _ refl c.from_residual.ensures.0 c.in_err-give_text.ensures))

pub returns-in_err-give_ids : goal.returns-in_err-give_ids
unfolding ref_text
returns-in_err-give_ids g c = gives_as (ap (λ l. l ++ id_fields c.args.list.now.to ++ codes "\n") c.words_of_refs-words.ensures) (gives_stops _ refl c.from_residual-in_err-give_ids.ensures.0 (gives_then c.in_ok-give_text.ensures c.in_err-give_ids.ensures))

pub returns : goal.returns
unfolding ref_text
returns g c = gives_as (ap (λ l. l ++ id_fields c.args.list.now.to ++ codes "\n") c.words_of_refs-words.ensures) (gives_then (gives_then c.in_ok-give_text.ensures c.in_ok-give_ids.ensures) c.give.ensures.gives)
