use Rattle.std.proofs.Common.{refl}
use Rattle.hf_desk.proofs.Paging.{gives_then, gives_stops}
use Rattle.hf_write.proofs.file.give_meta_lists.Goals as goal

pub returns-in_err-give_iinf : goal.returns-in_err-give_iinf
returns-in_err-give_iinf g c = gives_stops _ refl c.from_residual.ensures.0 c.in_err-give_iinf.ensures

pub returns-in_err-give_iref : goal.returns-in_err-give_iref
returns-in_err-give_iref g c = gives_then c.in_ok-give_iinf.ensures (gives_stops _ refl c.from_residual-in_err-give_iref.ensures.0 c.in_err-give_iref.ensures)

pub returns : goal.returns
returns g c = gives_then c.in_ok-give_iinf.ensures (gives_then c.in_ok-give_iref.ensures c.give_iprp.ensures)
