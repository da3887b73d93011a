use Rattle.std.proofs.Common.{◌≡◌, length, map, take}
use Rattle.hf_order.specs.Order.{AreWithin}
use Rattle.hf_derived.specs.Cycle.{pair_at}
use Rattle.hf_derived.proofs.cycle.places.Given as goal

abbrev pub invariant-loop-pair : goal.invariant-loop-pair
invariant-loop-pair l = record {
  within : AreWithin (length l.ids) l.places.items;
  there : map (pair_at l.ids) l.places.items ≡ take l.pair-index l.pairs;
}
