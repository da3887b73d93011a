use Rattle.std.proofs.Common.{◌≡◌, ◌++◌, filter, take}
use Rattle.hf_base.specs.Entries.{has_id}
use Rattle.hf_read.proofs.references.add_items.Given as goal

abbrev pub invariant-loop-id : goal.invariant-loop-id
invariant-loop-id l = l.to ≡ l.fn.to ++ filter (λ id. has_id id l.ids) (take l.id-index l.id-items)
