use Rattle.std.proofs.Common.{◌≤◌, ◌+◌, ◌*◌, length}
use Rattle.std.specs.List.{sum_by}
use Rattle.hf_base.specs.declared.kinds.TheConstants.{IPMA}
use Rattle.hf_base.specs.declared.limits.TheConstants.{ROWS}
use Rattle.hf_box.specs.Tables.{of_kind}
use Rattle.hf_prop.proofs.ipma.room_for_entries.Given as goal

abbrev pub invariant-loop-view : goal.invariant-loop-view
invariant-loop-view l = record {
  held : l.many * 3 + sum_by (λ b. length b.body) (of_kind IPMA l.left) ≤ sum_by (λ b. length b.body) (of_kind IPMA l.boxes);
  few : l.many ≤ ROWS;
}

abbrev pub decreases-loop-view : goal.decreases-loop-view
decreases-loop-view l = length (of_kind IPMA l.left)
