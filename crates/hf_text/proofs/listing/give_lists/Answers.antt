use Rattle.std.proofs.Common.{refl}
use Rattle.hf_desk.proofs.Paging.{gives_then, gives_stops}
use Rattle.hf_text.proofs.listing.give_lists.Goals as goal

pub returns-in_err-give_props : goal.returns-in_err-give_props
returns-in_err-give_props g c = gives_stops _ refl c.from_residual.ensures.0 c.in_err-give_props.ensures

pub returns : goal.returns
returns g c = gives_then c.in_ok-give_props.ensures c.give_refs.ensures
