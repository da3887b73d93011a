use Rattle.std.proofs.Common.{◌≡◌}
use Rattle.std.specs.List.{flat_map, range_with_len}
use Rattle.hf_trial.specs.Bytes.{tile_bytes}
use Rattle.hf_trial.proofs.buffer.trial_buffer.Given as goal

abbrev pub invariant-loop-k : goal.invariant-loop-k
invariant-loop-k l = l.bytes.items ≡ flat_map (tile_bytes l.seed) (range_with_len 1 l.k)
