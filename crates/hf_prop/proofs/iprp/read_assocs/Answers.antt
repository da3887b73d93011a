use Rattle.std.proofs.lemmas.Result.{err_from_is_err_and}
use Rattle.hf_base.specs.declared.kinds.TheConstants.{IPMA}
use Rattle.hf_base.specs.declared.limits.TheConstants.{ROWS}
use Rattle.hf_box.specs.Tables.{of_kind}
use Rattle.hf_box.proofs.TableLoop.{box_more, box_stops, boxes_done, gives_fault}
use Rattle.hf_prop.specs.Ipma.{with_ipma}
use Rattle.hf_prop.proofs.iprp.read_assocs.Goals as goal

pub returns-in_err-table-2 : goal.returns-in_err-table-2
returns-in_err-table-2 c =
    let p = err_from_is_err_and c.from_residual-in_err-table-2.result c.from_residual-in_err-table-2.ensures.1 in
    let fault = c.in_err-table-2.field-0.0 in
    let stops = box_stops (with_ipma ROWS) c.loop-view.table.assocs (of_kind IPMA c.loop-view.boxes) _ _ _ fault c.in-Some.ensures.some c.in_err-table-2.ensures.exact c.loop-view.invariant.read in
    gives_fault (λ assocs. assocs) c.from_residual-in_err-table-2.result p.0 fault _ p.1 p.2 stops

pub loop-view-preserved : goal.loop-view-preserved
loop-view-preserved c =
    let e = c.in_ok-table-2.ensures in
    record {
      table = e.table;
      few = e.few;
      read = box_more (with_ipma ROWS) c.loop-view.table.assocs (of_kind IPMA c.loop-view.boxes) _ _ _ c.in_ok-table-2.table.assocs c.in-Some.ensures.some e.exact c.loop-view.invariant.read;
    }

pub returns : goal.returns
returns c = boxes_done (with_ipma ROWS) c.loop-view.table.assocs (of_kind IPMA c.loop-view.boxes) _ c.in_default.ensures.none c.loop-view.invariant.read
