use Rattle.std.proofs.Common.{refl}
use Rattle.hf_desk.proofs.Paging.{put_end, put_stop}
use Rattle.hf_head.proofs.ftyp.put_ftyp.Goals as goal

pub returns-in_err-give_ftyp : goal.returns-in_err-give_ftyp
returns-in_err-give_ftyp g c = put_stop refl c.from_residual.ensures.0 (rw c.new-page.ensures at c.in_err-give_ftyp.ensures)

pub returns : goal.returns
returns g c = put_end (rw c.new-page.ensures at c.in_ok-give_ftyp.ensures) c.end.ensures.writes
