use Rattle.std.proofs.Common.{◌+◌, drop}
use Rattle.hf_order.specs.Waiting.{IsUnderWay}
use Rattle.hf_order.proofs.steps.finish.Given as goal

abbrev pub invariant-loop-pair : goal.invariant-loop-pair
invariant-loop-pair l = IsUnderWay l.sorted (drop l.pair-index l.users) (l.done + 1) l.left l.order.items
