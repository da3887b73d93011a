use Rattle.std.proofs.Common.{refl}
use Rattle.hf_links.specs.Grpl.{group_of, group_box}
use Rattle.hf_write.proofs.Fits.{flags_fit, group_few}
use Rattle.hf_write.proofs.Chains.{gives_next, gives_last}
use Rattle.hf_write.proofs.grpl.give_groups.Goals as goal

pub give_group-requires-clause-flags : goal.give_group-requires-clause-flags
give_group-requires-clause-flags g c = flags_fit c.args.store.now c.loop-i.i (group_of c.group_at.result.now) c.valid.ensures c.group_at.ensures

pub give_group-requires-clause-size : goal.give_group-requires-clause-size
give_group-requires-clause-size g c = group_few c.args.store.now c.loop-i.i (group_of c.group_at.result.now) c.valid.ensures c.group_at.ensures

pub returns-in_err-give_group : goal.returns-in_err-give_group
returns-in_err-give_group g c = gives_last (group_box) (c.args.store.now.groups) c.loop-i.i (group_of c.group_at.result.now) c.group_at.ensures refl c.from_residual.ensures.0 c.loop-i.invariant c.in_err-give_group.ensures

pub loop-i-preserved : goal.loop-i-preserved
loop-i-preserved g c = gives_next (group_box) (c.args.store.now.groups) c.loop-i.i (group_of c.group_at.result.now) c.group_at.ensures c.loop-i.invariant c.in_ok-give_group.ensures
