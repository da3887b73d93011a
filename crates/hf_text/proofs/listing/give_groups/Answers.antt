use Rattle.std.proofs.Common.{refl}
use Rattle.hf_text.specs.Listing.{group_text}
use Rattle.hf_text.proofs.Left.{leaves_all, leaves_less, leaves_stop, texts_from}
use Rattle.hf_text.proofs.listing.give_groups.Goals as goal

pub loop-i-init : goal.loop-i-init
loop-i-init g c = leaves_all _ _ _

pub returns-in_err-give_group : goal.returns-in_err-give_group
returns-in_err-give_group g c = leaves_stop _ _ _ (texts_from group_text c.args.store.now.groups c.loop-i.i _ c.group_at.ensures) refl c.from_residual.ensures.0 c.loop-i.invariant c.in_err-give_group.ensures

pub loop-i-preserved : goal.loop-i-preserved
loop-i-preserved g c = leaves_less _ _ _ (texts_from group_text c.args.store.now.groups c.loop-i.i _ c.group_at.ensures) c.loop-i.invariant c.in_ok-give_group.ensures
