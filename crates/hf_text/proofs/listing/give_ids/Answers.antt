use Rattle.std.proofs.Common.{refl, ap}
use Rattle.hf_desk.proofs.Paging.{gives_as}
use Rattle.hf_text.specs.Lines.{number_field}
use Rattle.hf_text.proofs.Left.{leaves_all, leaves_less, leaves_stop, texts_from}
use Rattle.hf_text.proofs.listing.give_ids.Goals as goal

pub loop-i-init : goal.loop-i-init
loop-i-init g c = leaves_all _ _ _

pub returns-in_err-give_number : goal.returns-in_err-give_number
returns-in_err-give_number g c =
    let here = texts_from number_field c.args.ids.now c.loop-i.i _ c.get.ensures in
    leaves_stop (number_field _) _ _ here refl c.from_residual.ensures.0 c.loop-i.invariant (gives_as (ap number_field c.from.ensures) c.in_err-give_number.ensures)

pub loop-i-preserved : goal.loop-i-preserved
loop-i-preserved g c =
    let here = texts_from number_field c.args.ids.now c.loop-i.i _ c.get.ensures in
    leaves_less (number_field _) _ _ here c.loop-i.invariant (gives_as (ap number_field c.from.ensures) c.in_ok-give_number.ensures)
