use Rattle.std.proofs.Common.{refl}
use Rattle.hf_store.specs.Seen.{item_of}
use Rattle.hf_write.specs.Entries.{refs_text}
use Rattle.hf_write.proofs.Fits.{id_fits, refs_fit}
use Rattle.hf_write.proofs.Chains.{gives_next, gives_last}
use Rattle.hf_write.proofs.iref.give_all_refs.Goals as goal

pub give_refs-requires-clause-from : goal.give_refs-requires-clause-from
give_refs-requires-clause-from g c = id_fits c.args.store.now c.args.wide c.loop-i.i (item_of c.at.result.now) c.len-i-end.ensures.valid c.requires.wide c.at.ensures

pub give_refs-requires-clause-lists : goal.give_refs-requires-clause-lists
give_refs-requires-clause-lists g c = refs_fit c.args.store.now c.args.wide c.loop-i.i (item_of c.at.result.now) c.len-i-end.ensures.valid c.requires.wide c.at.ensures

pub returns-in_err-give_refs : goal.returns-in_err-give_refs
returns-in_err-give_refs g c = gives_last (refs_text c.args.wide) (c.args.store.now.items) c.loop-i.i (item_of c.at.result.now) c.at.ensures refl c.from_residual.ensures.0 c.loop-i.invariant c.in_err-give_refs.ensures

pub loop-i-preserved : goal.loop-i-preserved
loop-i-preserved g c = gives_next (refs_text c.args.wide) (c.args.store.now.items) c.loop-i.i (item_of c.at.result.now) c.at.ensures c.loop-i.invariant c.in_ok-give_refs.ensures
