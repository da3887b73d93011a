use Rattle.std.proofs.Common.{sym, subst}
use Rattle.hf_store.specs.Seen.{store_of}
use Rattle.hf_store.specs.Sizes.{AreFew}
use Rattle.hf_store.proofs.FewCounts.{counts_few}
use Rattle.hf_store.proofs.store.Store.counts.Goals as goal

pub returns-clause-few : goal.returns-clause-few
returns-clause-few c =
    let kept = c.self.invariant in
    subst AreFew (sym kept.counted) (counts_few (store_of c.self.inside) kept.valid)
