use Rattle.std.proofs.Common.{refl}
use Rattle.hf_desk.proofs.Paging.{put_end, put_stop}
use Rattle.hf_loc.proofs.entry.put_entry.Goals as goal

pub returns-in_err-give_entry : goal.returns-in_err-give_entry
returns-in_err-give_entry g c = put_stop refl c.from_residual.ensures.0 (rw c.new-page.ensures at c.in_err-give_entry.ensures)

pub returns : goal.returns
returns g c = put_end (rw c.new-page.ensures at c.in_ok-give_entry.ensures) c.end.ensures.writes
