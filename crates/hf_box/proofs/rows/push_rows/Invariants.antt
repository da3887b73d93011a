use Rattle.std.proofs.Common.{◌≡◌, ◌++◌, map, take}
use Rattle.hf_box.specs.Boxes.{boxes_of}
use Rattle.hf_box.specs.Walk.{row_of}
use Rattle.hf_box.proofs.rows.push_rows.Given as goal

abbrev pub invariant-loop-b : goal.invariant-loop-b
invariant-loop-b l = l.rows.items ≡ l.fn.rows.items ++ map (row_of l.depth) (boxes_of (take l.b-index l.boxes))
