use Rattle.std.proofs.Common.{◌≡◌, ◌+◌, ◌%◌, ◌++◌}
use Rattle.std.specs.Prelude.{map}
use Rattle.std.specs.List.{range_with_len}
use Rattle.hf_trial.proofs.buffer.push_tile.Given as goal

abbrev pub invariant-loop-j : goal.invariant-loop-j
invariant-loop-j l = l.bytes.items ≡ l.fn.bytes.items ++ map (λ j. (l.fn.seed + l.fn.k + j) % 256) (range_with_len 0 l.j)
