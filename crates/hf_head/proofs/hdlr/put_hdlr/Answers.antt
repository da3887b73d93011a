use Rattle.std.proofs.Common.{refl}
use Rattle.hf_desk.proofs.Paging.{put_end, put_stop}
use Rattle.hf_head.proofs.hdlr.put_hdlr.Goals as goal

pub returns-in_err-give_hdlr : goal.returns-in_err-give_hdlr
returns-in_err-give_hdlr g c = put_stop refl c.from_residual.ensures.0 (rw c.new-page.ensures at c.in_err-give_hdlr.ensures)

pub returns : goal.returns
returns g c = put_end (rw c.new-page.ensures at c.in_ok-give_hdlr.ensures) c.end.ensures.writes
