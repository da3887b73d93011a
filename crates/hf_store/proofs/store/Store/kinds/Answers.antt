use Rattle.std.proofs.Common.{◌∙◌, ap, length, arith, subst}
use Rattle.hf_store.specs.Store.{ItemStore}
use Rattle.hf_store.specs.Table.{table_of}
use Rattle.hf_store.specs.Valid.{Valid}
use Rattle.hf_store.proofs.store.Store.kinds.Goals as goal

pub returns-clause-count : goal.returns-clause-count
unfolding table_of
returns-clause-count c = c.kinds.ensures.tallied _ c.self.invariant.tallies ∙ ap (λ (s : ItemStore). length (table_of s)) c.self.view_is

pub returns-clause-few : goal.returns-clause-few
unfolding table_of
returns-clause-few c =
    let valid : Valid c.args.self.now = subst Valid c.self.view_is c.self.invariant.valid in
    omega (arith, c.kinds.ensures.tallied _ c.self.invariant.tallies, ap (λ (s : ItemStore). length (table_of s)) c.self.view_is, valid.kinds)
