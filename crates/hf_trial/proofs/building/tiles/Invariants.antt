use Rattle.std.proofs.Common.{◌≡◌, ◌+◌, ◌-◌}
use Rattle.std.specs.Prelude.{map}
use Rattle.std.specs.List.{flat_map, range_with_len}
use Rattle.hf_store.specs.Seen.{items_of}
use Rattle.hf_trial.specs.Bytes.{tile_bytes}
use Rattle.hf_trial.specs.Trial.{tile}
use Rattle.hf_trial.proofs.building.tiles.Given as goal

abbrev pub invariant-loop-k : goal.invariant-loop-k
invariant-loop-k l = record {
  items : items_of l.items ≡ map (tile l.fn.seed) (range_with_len 1 l.k);
  rest : l.rest ≡ flat_map (tile_bytes l.fn.seed) (range_with_len (l.k + 1) (l.fn.count - l.k));
}
