use Rattle.std.proofs.Common.{◌≡◌}
use Rattle.hf_store.proofs.Mapped.{mapped}
use Rattle.hf_deps.specs.Redacted.{undescribed}
use Rattle.hf_deps.proofs.redaction.undescribe_all.Given as goal

abbrev pub invariant-loop-i : goal.invariant-loop-i
invariant-loop-i l = l.store ≡ record l.fn.store { items = mapped undescribed l.i l.fn.store.items }
