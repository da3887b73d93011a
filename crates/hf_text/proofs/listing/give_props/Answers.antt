use Rattle.std.proofs.Common.{refl}
use Rattle.hf_desk.proofs.Paging.{gives_as}
use Rattle.hf_text.specs.Listing.{prop_text}
use Rattle.hf_text.proofs.Left.{leaves_all, leaves_less, leaves_stop, texts_from}
use Rattle.hf_text.proofs.listing.give_props.Goals as goal

pub loop-i-init : goal.loop-i-init
loop-i-init g c = leaves_all _ _ _

pub returns-in_err-give_text : goal.returns-in_err-give_text
returns-in_err-give_text g c =
    let here = texts_from prop_text c.args.props.now c.loop-i.i _ c.get.ensures in
    leaves_stop (prop_text _) _ _ here refl c.from_residual.ensures.0 c.loop-i.invariant (gives_as c.line_of_prop.ensures c.in_err-give_text.ensures)

pub loop-i-preserved : goal.loop-i-preserved
loop-i-preserved g c =
    let here = texts_from prop_text c.args.props.now c.loop-i.i _ c.get.ensures in
    leaves_less (prop_text _) _ _ here c.loop-i.invariant (gives_as c.line_of_prop.ensures c.in_ok-give_text.ensures)
