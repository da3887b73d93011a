use Rattle.std.proofs.Common.{◌≡◌, ◌≤◌, ℕ, [], length}
use Rattle.hf_base.specs.Entries.{has_id}
use Rattle.hf_base.specs.declared.limits.TheConstants.{ROWS}
use Rattle.hf_box.specs.Tables.{boxes_from}
use Rattle.hf_links.specs.Grpl.{groups_of, group_ids, group_rows, with_group}
use Rattle.hf_links.proofs.grpl.groups_in.Given as goal

abbrev pub invariant-loop-view : goal.invariant-loop-view
invariant-loop-view l = record {
  read : boxes_from with_group (groups_of l.groups.items) l.boxes ≡ boxes_from with_group [] l.fn.boxes;
  seen : (q : ℕ) → has_id q l.seen ≡ has_id q (group_ids (groups_of l.groups.items));
  rows : l.rows ≡ group_rows (groups_of l.groups.items);
  few : l.rows ≤ ROWS;
}

abbrev pub decreases-loop-view : goal.decreases-loop-view
decreases-loop-view l = length l.boxes
