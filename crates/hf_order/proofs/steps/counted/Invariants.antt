use Rattle.std.proofs.Common.{◌≡◌, ℕ, ◌<◌, [], length, take, get_or}
use Rattle.hf_order.specs.Waiting.{waits}
use Rattle.hf_order.proofs.steps.counted.Given as goal

abbrev pub invariant-loop-pair : goal.invariant-loop-pair
invariant-loop-pair l = record {
  size : length l.left.items ≡ l.count;
  counts : (node : ℕ) → node < l.count → get_or l.left.items node 0 ≡ waits [] node (take l.pair-index l.pairs);
}
