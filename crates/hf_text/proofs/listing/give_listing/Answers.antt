use Rattle.std.proofs.Common.{refl, ap, ◌∙◌}
use Rattle.hf_desk.proofs.Paging.{gives_as, gives_then, gives_stops, gives_more}
use Rattle.hf_text.specs.Listing.{brands_text, primary_text, listing_text}
use Rattle.hf_text.proofs.listing.give_listing.Goals as goal

pub returns-in_err-give_brands : goal.returns-in_err-give_brands
unfolding listing_text
returns-in_err-give_brands g c = (gives_more _ c.from_residual.ensures.0 (gives_more _ c.from_residual.ensures.0 (gives_stops _ refl c.from_residual.ensures.0 (gives_as (ap brands_text c.brands.ensures.value) c.in_err-give_brands.ensures))))

pub returns-in_err-give_text : goal.returns-in_err-give_text
unfolding listing_text
returns-in_err-give_text g c = (gives_more _ c.from_residual-in_err-give_text.ensures.0 (gives_stops _ refl c.from_residual-in_err-give_text.ensures.0 (gives_then (gives_as (ap brands_text c.brands.ensures.value) c.in_ok-give_brands.ensures) (gives_as (c.line_of_primary.ensures ∙ ap primary_text c.primary.ensures) c.in_err-give_text.ensures))))

pub returns-in_err-give_items : goal.returns-in_err-give_items
unfolding listing_text
returns-in_err-give_items g c = (gives_stops _ refl c.from_residual-in_err-give_items.ensures.0 (gives_then (gives_then (gives_as (ap brands_text c.brands.ensures.value) c.in_ok-give_brands.ensures) (gives_as (c.line_of_primary.ensures ∙ ap primary_text c.primary.ensures) c.in_ok-give_text.ensures)) c.in_err-give_items.ensures))

pub returns : goal.returns
unfolding listing_text
returns g c = (gives_then (gives_then (gives_then (gives_as (ap brands_text c.brands.ensures.value) c.in_ok-give_brands.ensures) (gives_as (c.line_of_primary.ensures ∙ ap primary_text c.primary.ensures) c.in_ok-give_text.ensures)) c.in_ok-give_items.ensures) c.give_groups.ensures)
