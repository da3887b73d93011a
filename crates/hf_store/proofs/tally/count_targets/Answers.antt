use Rattle.std.proofs.Common.{length, ◌∙◌, arith}
use Rattle.hf_store.specs.Store.{RefList}
use Rattle.hf_store.proofs.Tallied.{sum-next, sum-all}
use Rattle.hf_store.proofs.tally.count_targets.Goals as goal

pub loop-list-preserved : goal.loop-list-preserved
loop-list-preserved c =
    let next = sum-next (λ (r : RefList). length r.to) c.args.refs.now c.loop-list.list-index c.list-item.result c.loop-list.sum (omega arith) c.list-item.is c.loop-list.invariant in
    omega (arith, next)

pub returns : goal.returns
returns c = c.loop-list.invariant ∙ sum-all (λ (r : RefList). length r.to) c.args.refs.now c.loop-list.list-index (omega arith)
