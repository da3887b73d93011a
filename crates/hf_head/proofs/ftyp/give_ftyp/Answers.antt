use Rattle.std.proofs.Common.{refl}
use Rattle.hf_desk.proofs.Paging.{gives_as, gives_then, gives_stops}
use Rattle.hf_head.proofs.ftyp.give_ftyp.Goals as goal

pub returns-in_err-give : goal.returns-in_err-give
returns-in_err-give g c =
    let whole = c.front_of-front.ensures c.args.brands.now.compatible.now refl in
    gives_as whole (gives_stops c.args.brands.now.compatible.now refl c.from_residual.ensures.0 c.in_err-give.ensures.gives)

pub returns : goal.returns
returns g c =
    let whole = c.front_of-front.ensures c.args.brands.now.compatible.now refl in
    gives_as whole (gives_then c.in_ok-give.ensures.gives c.give-2.ensures.gives)
