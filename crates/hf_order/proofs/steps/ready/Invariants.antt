use Rattle.hf_order.specs.Waiting.{AreReady}
use Rattle.hf_order.proofs.steps.ready.Given as goal

abbrev pub invariant-loop-node : goal.invariant-loop-node
invariant-loop-node l = AreReady l.node l.left l.nodes.items
