use Rattle.std.proofs.Common.{◌-◌, [], length}
use Rattle.hf_store.specs.Store.{ids_of}
use Rattle.hf_deps.specs.Reach.{AreMarked, IsSpread}
use Rattle.hf_deps.proofs.reach.reach.Given as goal

abbrev pub invariant-loop-done : goal.invariant-loop-done
invariant-loop-done l = record {
  marked : AreMarked (ids_of l.store.items) l.marks.items l.ids.items;
  spread : IsSpread l.pairs [] l.store.primary l.done l.ids.items;
}

abbrev pub decreases-loop-done : goal.decreases-loop-done
decreases-loop-done l = length (ids_of l.store.items) - l.done
