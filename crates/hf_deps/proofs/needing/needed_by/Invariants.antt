use Rattle.std.proofs.Common.{◌≡◌, drop}
use Rattle.hf_deps.specs.Needs.{needed_by}
use Rattle.hf_deps.proofs.needing.needed_by.Given as goal

abbrev pub invariant-loop-i : goal.invariant-loop-i
invariant-loop-i l = needed_by l.id l.store.items ≡ needed_by l.id (drop l.i l.store.items)
