use Rattle.std.proofs.Common.{rules}
use Rattle.std.proofs.lemmas.List.Sorted.{IsPartitionPoint-from_clause}
use Rattle.hf_base.specs.declared.loc.RefBox.{RefBox}
use Rattle.hf_read.specs.References.{is_of}
use Rattle.hf_read.proofs.ReferenceLaws.{run_ends, run_is_front}
use Rattle.hf_read.proofs.references.run_len.Goals as goal
use denote.Ref.{Bor}

pub returns : goal.returns
returns c =
    let from = c.args.from in
    let kind = c.args.kind in
    let boxes = c.args.boxes.now in
    let end = c.partition_point.result in
    let front = run_is_front from kind boxes c.requires.sorted c.requires.first in
    let point = IsPartitionPoint-from_clause (λ (b : Bor RefBox). is_of from kind b.now) boxes end c.partition_point.ensures.partitioned front
    (λ a r f q. search rules) in
    run_ends from kind boxes end c.requires.sorted c.requires.first c.partition_point.ensures.bound point
