use Rattle.std.proofs.Common.{◌≡◌, ◌≤◌, [], length}
use Rattle.hf_base.specs.declared.limits.TheConstants.{ROWS}
use Rattle.hf_box.specs.Tables.{boxes_from}
use Rattle.hf_links.specs.Iref.{link_rows, with_ref_box}
use Rattle.hf_links.proofs.iref.links_in.Given as goal

abbrev pub invariant-loop-view : goal.invariant-loop-view
invariant-loop-view l = record {
  read : boxes_from (with_ref_box l.width) l.links.items l.boxes ≡ boxes_from (with_ref_box l.width) [] l.fn.boxes;
  rows : l.rows ≡ link_rows l.links.items;
  few : l.rows ≤ ROWS;
}

abbrev pub decreases-loop-view : goal.decreases-loop-view
decreases-loop-view l = length l.boxes
