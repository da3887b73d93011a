use Rattle.std.proofs.Common.{refl}
use Rattle.hf_desk.proofs.Paging.{gives_then, gives_more, gives_exit}
use Rattle.hf_info.specs.Texts.{zero_ended_if_any}
use Rattle.hf_info.proofs.put.give_texts.Goals as goal

pub returns-in_err-give_text : goal.returns-in_err-give_text
returns-in_err-give_text g c = let err = c.from_residual.ensures.0 in gives_more (zero_ended_if_any c.args.second.now) err (gives_exit refl err c.in_err-give_text.ensures)

pub returns : goal.returns
returns g c = gives_then c.in_ok-give_text.ensures c.give_text_if_any.ensures
