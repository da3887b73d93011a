use Rattle.std.proofs.Common.{refl}
use Rattle.hf_desk.proofs.Paging.{gives_unwritten, gives_past}
use Rattle.hf_desk.proofs.page.Page.give_over.Goals as goal

pub returns-in_err-end : goal.returns-in_err-end
returns-in_err-end g c = rw c.in_err-end.ensures.empty (gives_unwritten _ _ _ _ _ _ _ refl c.from_residual.ensures.0 c.in_err-end.ensures.writes)

pub returns-then-piece-gt-PAGE : goal.returns-then-piece-gt-PAGE
returns-then-piece-gt-PAGE g c = rw c.in_ok-end.ensures.empty (gives_past _ _ _ _ _ _ _ c.in_ok-end.ensures.writes c.write_all.ensures.writes)
