use Rattle.std.proofs.Common.{refl}
use Rattle.hf_desk.proofs.Paging.{gives_then, gives_stops}
use Rattle.hf_write.proofs.file.give_meta_places.Goals as goal

pub returns-in_err-give_grpl : goal.returns-in_err-give_grpl
returns-in_err-give_grpl g c = gives_stops _ refl c.from_residual.ensures.0 c.in_err-give_grpl.ensures

pub returns-in_err-give_idat : goal.returns-in_err-give_idat
returns-in_err-give_idat g c = gives_then c.in_ok-give_grpl.ensures (gives_stops _ refl c.from_residual-in_err-give_idat.ensures.0 c.in_err-give_idat.ensures)

pub returns : goal.returns
returns g c = gives_then c.in_ok-give_grpl.ensures (gives_then c.in_ok-give_idat.ensures c.give_iloc.ensures)
