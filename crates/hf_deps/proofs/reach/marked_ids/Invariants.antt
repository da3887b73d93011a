use Rattle.std.proofs.Common.{◌≡◌, ℕ, Bool, filter, map, take}
use Rattle.hf_store.specs.Store.{ids_of}
use Rattle.hf_deps.proofs.reach.marked_ids.Given as goal

abbrev pub invariant-loop-i : goal.invariant-loop-i
invariant-loop-i l = (test : ℕ → Bool) → l.marks ≡ map test (ids_of l.store.items) → l.ids ≡ filter test (take l.i (ids_of l.store.items))
