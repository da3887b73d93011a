use Rattle.std.proofs.Common.{refl}
use Rattle.hf_store.specs.Seen.{item_of}
use Rattle.hf_write.specs.Entries.{bytes_if}
use Rattle.hf_write.proofs.Chains.{gives_next, gives_last}
use Rattle.hf_write.proofs.bodies.give_bodies.Goals as goal

pub returns-in_err-give_body : goal.returns-in_err-give_body
returns-in_err-give_body g c = gives_last (bytes_if c.args.inner) (c.args.store.now.items) c.loop-i.i (item_of c.at.result.now) c.at.ensures refl c.from_residual.ensures.0 c.loop-i.invariant c.in_err-give_body.ensures

pub loop-i-preserved : goal.loop-i-preserved
loop-i-preserved g c = gives_next (bytes_if c.args.inner) (c.args.store.now.items) c.loop-i.i (item_of c.at.result.now) c.at.ensures c.loop-i.invariant c.in_ok-give_body.ensures
