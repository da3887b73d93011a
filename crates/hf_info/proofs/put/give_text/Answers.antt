use Rattle.std.proofs.Common.{refl}
use Rattle.hf_base.specs.Number.{num}
use Rattle.hf_desk.proofs.Paging.{gives_then, gives_more, gives_exit}
use Rattle.hf_info.proofs.put.give_text.Goals as goal

pub returns-in_err-give : goal.returns-in_err-give
returns-in_err-give g c = let err = c.from_residual.ensures.0 in gives_more (num 0 1) err (gives_exit refl err c.in_err-give.ensures.gives)

pub returns : goal.returns
unfolding num
returns g c = gives_then c.in_ok-give.ensures.gives c.give-2.ensures.gives
