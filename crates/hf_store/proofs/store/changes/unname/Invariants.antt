use Rattle.std.proofs.Common.{◌≡◌}
use Rattle.hf_store.specs.Changes.{unnamed}
use Rattle.hf_store.specs.Seen.{items_of}
use Rattle.hf_store.proofs.Mapped.{mapped}
use Rattle.hf_store.proofs.store.changes.unname.Given as goal

abbrev pub invariant-loop-i : goal.invariant-loop-i
invariant-loop-i l = items_of l.items.items ≡ mapped unnamed l.i (items_of l.initial.items.items)
