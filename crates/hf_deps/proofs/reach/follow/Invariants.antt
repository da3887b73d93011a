use Rattle.std.proofs.Common.{◌+◌, drop}
use Rattle.hf_store.specs.Store.{ids_of}
use Rattle.hf_deps.specs.Reach.{AreMarked, IsSpread}
use Rattle.hf_deps.proofs.reach.follow.Given as goal

abbrev pub invariant-loop-pair : goal.invariant-loop-pair
invariant-loop-pair l = record {
  marked : AreMarked (ids_of l.store.items) l.marks l.reached.items;
  spread : IsSpread l.pairs (drop l.pair-index l.kept) l.store.primary (l.done + 1) l.reached.items;
}
