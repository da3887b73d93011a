use Rattle.std.proofs.Common.{◌≡◌, ◌≤◌, [], length}
use Rattle.hf_base.specs.declared.kinds.TheConstants.{IPMA}
use Rattle.hf_base.specs.declared.limits.TheConstants.{ROWS}
use Rattle.hf_box.specs.Tables.{of_kind, boxes_from}
use Rattle.hf_prop.specs.Ipma.{with_ipma}
use Rattle.hf_prop.specs.Tables.{IsTable}
use Rattle.hf_prop.proofs.iprp.read_assocs.Given as goal

abbrev pub invariant-loop-view : goal.invariant-loop-view
invariant-loop-view l = record {
  table : IsTable l.table;
  few : l.table.rows ≤ ROWS;
  read : boxes_from (with_ipma ROWS) l.table.assocs (of_kind IPMA l.boxes) ≡ boxes_from (with_ipma ROWS) [] (of_kind IPMA l.fn.boxes);
}

abbrev pub decreases-loop-view : goal.decreases-loop-view
decreases-loop-view l = length (of_kind IPMA l.boxes)
