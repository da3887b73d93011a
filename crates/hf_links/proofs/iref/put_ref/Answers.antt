use Rattle.std.proofs.Common.{refl}
use Rattle.hf_desk.proofs.Paging.{put_end, put_stop}
use Rattle.hf_links.proofs.iref.put_ref.Goals as goal

pub returns-in_err-give_ref : goal.returns-in_err-give_ref
returns-in_err-give_ref g c = put_stop refl c.from_residual.ensures.0 (rw c.new-page.ensures at c.in_err-give_ref.ensures)

pub returns : goal.returns
returns g c = put_end (rw c.new-page.ensures at c.in_ok-give_ref.ensures) c.end.ensures.writes
