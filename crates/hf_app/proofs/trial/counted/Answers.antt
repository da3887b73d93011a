use Rattle.std.proofs.Common.{rules}
use Rattle.hf_app.proofs.Trials.{counted}
use Rattle.hf_app.proofs.trial.counted.Goals as goal

pub returns : goal.returns
returns c =
    rw c.len.ensures.count (rw c.len-2.ensures.count (rw c.total.ensures (rw c.total-2.ensures
    (counted c.args.seed c.args.n c.args.store.now _ c.args.whole.now c.in_ok-plan.plan c.requires.store (search rules) c.valid.ensures c.valid-2.ensures
    c.requires.plan (search rules)))))
