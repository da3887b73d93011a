use Rattle.std.proofs.Common.{ℕ, rules}
use Rattle.std.proofs.lemmas.List.Sorted.{IsNonDecreasingBy-from_sort_by_key}
use Rattle.hf_deps.proofs.pairs.by_keeper.Goals as goal

pub returns-clause-rises : goal.returns-clause-rises
returns-clause-rises c = IsNonDecreasingBy-from_sort_by_key (λ (p : ℕ × ℕ). p.1) _ c.sort_unstable_by_key.ensures.sorted (λ a r q k. search rules)
