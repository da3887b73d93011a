use Rattle.std.proofs.Common.{refl}
use Rattle.hf_desk.proofs.Paging.{put_end, put_stop}
use Rattle.hf_links.proofs.grpl.put_group.Goals as goal

pub returns-in_err-give_group : goal.returns-in_err-give_group
returns-in_err-give_group g c = put_stop refl c.from_residual.ensures.0 (rw c.new-page.ensures at c.in_err-give_group.ensures)

pub returns : goal.returns
returns g c = put_end (rw c.new-page.ensures at c.in_ok-give_group.ensures) c.end.ensures.writes
