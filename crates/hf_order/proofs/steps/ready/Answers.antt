use Rattle.std.proofs.Common.{ℕ, ◌+◌, ◌<◌, List, get_or, sym, ap, subst, ◌∙◌, arith}
use Rattle.hf_order.specs.Waiting.{AreReady}
use Rattle.hf_order.proofs.Ready.{ready_joins, ready_skips}
use Rattle.hf_order.proofs.steps.ready.Goals as goal
use Rattle.hf_order.proofs.steps.ready.Goals.{then-waits-eq0+in_ok-push, else-waits-eq0}

pub loop-node-preserved : goal.loop-node-preserved
loop-node-preserved c =
    let left = c.args.left.now in
    let i = c.loop-node.node in
    let nodes = c.loop-node.nodes.items in
    elim c.if-waits-eq0.branch [
      | then-waits-eq0+in_ok-push w ↦
          let new = ap (λ v. v.items) w.nodes-is ∙ w.in_ok-push.ensures.items in
          subst (λ (l : List ℕ). AreReady (i + 1) left l) (sym new) (ready_joins i left nodes c.loop-node-test.true w.if-waits-eq0.true c.loop-node.invariant)
      | else-waits-eq0 w ↦
          let some : 0 < get_or left i 0 = let ne = w.if-waits-eq0.false in omega arith in
          let same = ap (λ v. v.items) w.nodes-is in
          subst (λ (l : List ℕ). AreReady (i + 1) left l) (sym same) (ready_skips i left nodes c.loop-node-test.true some c.loop-node.invariant)
    ]
