use Rattle.std.proofs.Common.{refl}
use Rattle.hf_desk.proofs.Paging.{gives_then, gives_stops}
use Rattle.hf_text.specs.Listing.{item_text}
use Rattle.hf_text.proofs.listing.give_item.Goals as goal

pub returns-in_err-give_entry : goal.returns-in_err-give_entry
unfolding item_text
returns-in_err-give_entry g c = gives_stops _ refl c.from_residual.ensures.0 c.in_err-give_entry.ensures

pub returns : goal.returns
unfolding item_text
returns g c = gives_then c.in_ok-give_entry.ensures c.give_lists.ensures
