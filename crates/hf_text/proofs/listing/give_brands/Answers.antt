use Rattle.std.proofs.Common.{refl, ap, ◌++◌}
use Rattle.std.specs.Prelude.{codes}
use Rattle.hf_desk.proofs.Paging.{gives_as, gives_then, gives_stops, gives_more}
use Rattle.hf_text.specs.Listing.{brand_fields, brands_text}
use Rattle.hf_text.proofs.listing.give_brands.Goals as goal

pub returns-in_err-give_text : goal.returns-in_err-give_text
unfolding brands_text
returns-in_err-give_text g c = gives_as (ap (λ l. l ++ brand_fields c.args.brands.now.compatible.now ++ codes "\n") c.words_of_brands-words.ensures) (gives_more _ c.from_residual.ensures.0 (gives_stops _ refl c.from_residual.ensures.0 c.in_err-give_text.ensures))

pub returns-in_err-give_kinds : goal.returns-in_err-give_kinds
unfolding brands_text
returns-in_err-give_kinds g c = gives_as (ap (λ l. l ++ brand_fields c.args.brands.now.compatible.now ++ codes "\n") c.words_of_brands-words.ensures) (gives_stops _ refl c.from_residual-in_err-give_kinds.ensures.0 (gives_then c.in_ok-give_text.ensures c.in_err-give_kinds.ensures))

pub returns : goal.returns
unfolding brands_text
returns g c = gives_as (ap (λ l. l ++ brand_fields c.args.brands.now.compatible.now ++ codes "\n") c.words_of_brands-words.ensures) (gives_then (gives_then c.in_ok-give_text.ensures c.in_ok-give_kinds.ensures) c.give.ensures.gives)
