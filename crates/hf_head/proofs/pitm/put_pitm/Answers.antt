use Rattle.std.proofs.Common.{refl}
use Rattle.hf_desk.proofs.Paging.{put_end, put_stop}
use Rattle.hf_head.proofs.pitm.put_pitm.Goals as goal

pub returns-in_err-give_pitm : goal.returns-in_err-give_pitm
returns-in_err-give_pitm g c = put_stop refl c.from_residual.ensures.0 (rw c.new-page.ensures at c.in_err-give_pitm.ensures)

pub returns : goal.returns
returns g c = put_end (rw c.new-page.ensures at c.in_ok-give_pitm.ensures) c.end.ensures.writes
