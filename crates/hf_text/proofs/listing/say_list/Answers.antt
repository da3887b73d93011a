use Rattle.std.proofs.Common.{refl}
use Rattle.hf_desk.proofs.Paging.{say_end, say_stop}
use Rattle.hf_text.proofs.listing.say_list.Goals as goal

pub returns-in_err-give_listing : goal.returns-in_err-give_listing
returns-in_err-give_listing g c = say_stop refl c.from_residual.ensures.0 (rw c.new-page.ensures at c.in_err-give_listing.ensures)

pub returns : goal.returns
returns g c = say_end (rw c.new-page.ensures at c.in_ok-give_listing.ensures) c.end.ensures.writes
