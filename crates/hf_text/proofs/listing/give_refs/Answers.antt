use Rattle.std.proofs.Common.{refl}
use Rattle.hf_text.specs.Listing.{ref_text}
use Rattle.hf_text.proofs.Left.{leaves_all, leaves_less, leaves_stop, texts_from}
use Rattle.hf_text.proofs.listing.give_refs.Goals as goal

pub loop-i-init : goal.loop-i-init
loop-i-init g c = leaves_all _ _ _

pub returns-in_err-give_ref : goal.returns-in_err-give_ref
returns-in_err-give_ref g c =
    let here = texts_from ref_text c.args.refs.now c.loop-i.i _ c.get.ensures in
    leaves_stop (ref_text _) _ _ here refl c.from_residual.ensures.0 c.loop-i.invariant c.in_err-give_ref.ensures

pub loop-i-preserved : goal.loop-i-preserved
loop-i-preserved g c =
    let here = texts_from ref_text c.args.refs.now c.loop-i.i _ c.get.ensures in
    leaves_less (ref_text _) _ _ here c.loop-i.invariant c.in_ok-give_ref.ensures
