use Rattle.std.proofs.Common.{rules}
use Rattle.std.proofs.lemmas.List.Sorted.{IsNonDecreasingBy-from_sort_by_key}
use Rattle.hf_links.specs.declared.grpl.Group.{Group}
use Rattle.hf_read.proofs.groups.by_id.Goals as goal

pub returns-clause-rises : goal.returns-clause-rises
returns-clause-rises c = IsNonDecreasingBy-from_sort_by_key (λ (g : Group). g.id) _ c.in_ok-sort_by_key.ensures.sorted (λ a r q k. search rules)
