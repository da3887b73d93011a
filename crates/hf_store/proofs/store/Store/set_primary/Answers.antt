use Rattle.std.proofs.Common.{sym, ap, subst}
use Rattle.hf_store.specs.Changes.{with_primary}
use Rattle.hf_store.specs.Counts.{counts_of}
use Rattle.hf_store.specs.Valid.{Valid}
use Rattle.hf_store.proofs.store.Store.set_primary.Goals as goal

pub invariant_of-self : goal.invariant_of-self
unfolding counts_of
invariant_of-self c = record {
  valid = subst Valid (sym (ap (with_primary c.args.id) c.self.view_is)) c.requires;
  tallies = c.self.invariant.tallies;
  counted = c.self.invariant.counted;
  referred = c.self.invariant.referred;
}
