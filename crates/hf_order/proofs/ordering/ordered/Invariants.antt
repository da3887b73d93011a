use Rattle.std.proofs.Common.{◌≡◌, ◌-◌, [], length}
use Rattle.hf_order.specs.Waiting.{IsUnderWay}
use Rattle.hf_order.proofs.ordering.ordered.Given as goal

abbrev pub invariant-loop-done : goal.invariant-loop-done
invariant-loop-done l = record {
  size : length l.left.items ≡ l.count;
  way : IsUnderWay l.sorted [] l.done l.left.items l.nodes.items;
}

abbrev pub decreases-loop-done : goal.decreases-loop-done
decreases-loop-done l = l.count - l.done
