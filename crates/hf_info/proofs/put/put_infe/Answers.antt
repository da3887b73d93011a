use Rattle.std.proofs.Common.{refl}
use Rattle.hf_desk.proofs.Paging.{put_end, put_stop}
use Rattle.hf_info.proofs.put.put_infe.Goals as goal

pub returns-in_err-give_infe : goal.returns-in_err-give_infe
returns-in_err-give_infe g c = put_stop refl c.from_residual.ensures.0 (rw c.new-page.ensures at c.in_err-give_infe.ensures)

pub returns : goal.returns
returns g c = put_end (rw c.new-page.ensures at c.in_ok-give_infe.ensures) c.end.ensures.writes
