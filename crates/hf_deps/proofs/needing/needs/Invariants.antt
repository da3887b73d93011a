use Rattle.std.proofs.Common.{◌≡◌, ℕ, Bool, ◌&&◌, drop}
use Rattle.std.specs.Prelude.{◌==◌}
use Rattle.std.specs.List.{list_any}
use Rattle.hf_links.specs.Kinds.{is_need}
use Rattle.hf_store.specs.declared.item.RefList.{RefList}
use Rattle.hf_deps.proofs.needing.needs.Given as goal

abbrev needs_by : ℕ → RefList → Bool
needs_by id r = is_need r.kind && list_any (λ to. to == id) r.to

abbrev pub invariant-loop-list : goal.invariant-loop-list
invariant-loop-list l = list_any (needs_by l.id) l.refs ≡ list_any (needs_by l.id) (drop l.list-index l.refs)
