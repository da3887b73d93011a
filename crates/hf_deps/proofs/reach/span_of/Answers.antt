use Rattle.std.proofs.Common.{ℕ, ltb, leb, arith, rules}
use Rattle.std.proofs.lemmas.List.Sorted.{IsPartitionPoint-from_clause, IsPartitionedBy-ltb, IsPartitionedBy-leb}
use Rattle.hf_order.proofs.Sorted.{split_order, users_between}
use Rattle.hf_deps.proofs.reach.span_of.Goals as goal

pub returns-clause-rises : goal.returns-clause-rises
returns-clause-rises c =
    let xs = c.args.pairs.now in
    let low = IsPartitionPoint-from_clause (λ (p : ℕ × ℕ). ltb p.1 c.args.by) xs _ c.partition_point-start.ensures.partitioned
    (IsPartitionedBy-ltb (λ (p : ℕ × ℕ). p.1) xs c.args.by c.requires) (λ a r q k. search rules) in
    let high = IsPartitionPoint-from_clause (λ (p : ℕ × ℕ). leb p.1 c.args.by) xs _ c.partition_point-end.ensures.partitioned
    (IsPartitionedBy-leb (λ (p : ℕ × ℕ). p.1) xs c.args.by c.requires) (λ a r q k. search rules) in
    split_order c.args.by xs c.partition_point-start.result c.partition_point-end.result (omega arith) (low, high)

pub returns-clause-between : goal.returns-clause-between
returns-clause-between c =
    let xs = c.args.pairs.now in
    let low = IsPartitionPoint-from_clause (λ (p : ℕ × ℕ). ltb p.1 c.args.by) xs _ c.partition_point-start.ensures.partitioned
    (IsPartitionedBy-ltb (λ (p : ℕ × ℕ). p.1) xs c.args.by c.requires) (λ a r q k. search rules) in
    let high = IsPartitionPoint-from_clause (λ (p : ℕ × ℕ). leb p.1 c.args.by) xs _ c.partition_point-end.ensures.partitioned
    (IsPartitionedBy-leb (λ (p : ℕ × ℕ). p.1) xs c.args.by c.requires) (λ a r q k. search rules) in
    users_between c.args.by xs c.partition_point-start.result c.partition_point-end.result (omega arith) (omega arith) (low, high)
