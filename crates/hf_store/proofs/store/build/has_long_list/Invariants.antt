use Rattle.std.proofs.Common.{◌≡◌, drop, length}
use Rattle.std.specs.Prelude.{nat_lt}
use Rattle.std.specs.List.{list_any}
use Rattle.hf_base.specs.declared.limits.TheConstants as limits
use Rattle.hf_store.specs.Store.{RefList}
use Rattle.hf_store.proofs.store.build.has_long_list.Given as goal

abbrev pub invariant-loop-list : goal.invariant-loop-list
invariant-loop-list l = list_any (λ (r : RefList). nat_lt limits.LINKS (length r.to)) l.refs ≡ list_any (λ (r : RefList). nat_lt limits.LINKS (length r.to)) (drop l.list-index l.refs)
