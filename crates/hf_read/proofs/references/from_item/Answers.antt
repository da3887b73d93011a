use Rattle.std.proofs.Common.{rules, ◌≤◌, List, ltb, sym, ap, subst, ◌∙◌}
use Rattle.std.specs.List.{AllByRecursion}
use Rattle.std.proofs.lemmas.List.{take_rest}
use Rattle.std.proofs.lemmas.List.Sorted.{IsPartitionPoint-from_clause}
use Rattle.hf_base.specs.declared.loc.RefBox.{RefBox}
use Rattle.hf_read.specs.Kept.{kept_refs}
use Rattle.hf_read.specs.References.{seen}
use Rattle.hf_read.proofs.ReferenceLaws.{earlier_are_front, item_reached, earlier_are_none}
use Rattle.hf_read.proofs.references.from_item.Goals as goal
use denote.Ref.{Bor}

pub returns-clause-reached : goal.returns-clause-reached
returns-clause-reached c =
    let from = c.args.from in
    let boxes = c.args.boxes.now in
    let point = IsPartitionPoint-from_clause
    (λ (b : Bor RefBox). ltb b.now.from from) boxes c.partition_point.result c.partition_point.ensures.partitioned
    (earlier_are_front from boxes c.requires) (λ a r f q. search rules) in
    subst (λ (l : List (Bor RefBox)). AllByRecursion (λ (b : RefBox). from ≤ b.from) (seen l)) (sym (take_rest boxes c.partition_point.result))
    (item_reached from boxes c.partition_point.result point)

pub returns-clause-kept : goal.returns-clause-kept
returns-clause-kept c = λ ids.
    let from = c.args.from in
    let boxes = c.args.boxes.now in
    let point = IsPartitionPoint-from_clause
    (λ (b : Bor RefBox). ltb b.now.from from) boxes c.partition_point.result c.partition_point.ensures.partitioned
    (earlier_are_front from boxes c.requires) (λ a r f q. search rules) in
    ap (λ (l : List (Bor RefBox)). kept_refs ids (seen l) from) (take_rest boxes c.partition_point.result)
    ∙ earlier_are_none from boxes c.partition_point.result c.partition_point.ensures.bound point ids
