use Rattle.std.proofs.Common.{ℕ, ◌≤◌, List, length, subst, arith}
use Rattle.hf_order.specs.Waiting.{AreReady}
use Rattle.hf_order.proofs.UnderWay.{begun, complete}
use Rattle.hf_order.proofs.ordering.ordered.Goals as goal

pub loop-done-init : goal.loop-done-init
loop-done-init c =
    let left = c.in_ok-left.left.items in
    let nodes = c.in_ok-nodes.nodes.items in
    let ready = subst (λ (l : List ℕ). AreReady (length l) l nodes) c.deref.ensures.value c.in_ok-nodes.ensures in
    record {
      size = c.in_ok-left.ensures.size;
      way = begun c.args.sorted.now left nodes ready (λ a less. c.in_ok-left.ensures.counts a (omega (arith, c.in_ok-left.ensures.size)));
    }

pub returns-clause-exact : goal.returns-clause-exact
returns-clause-exact c =
    let all : length c.loop-done.nodes.items ≤ c.loop-done.done = omega (arith, c.loop-done.nodes.ok.0) in
    (complete c.args.sorted.now c.args.count c.loop-done.done c.loop-done.left.items c.loop-done.nodes.items c.loop-done.invariant.size all c.loop-done.invariant.way).0
