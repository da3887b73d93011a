use Rattle.std.proofs.Common.{◌≡◌, [], take, drop}
use Rattle.hf_box.specs.Boxes.{boxes_of}
use Rattle.hf_read.specs.Level.{Knows}
use Rattle.hf_read.specs.TopLevel.{top_once, first_fault, top_box_fault}
use Rattle.hf_read.proofs.level.check_top.Given as goal

abbrev pub invariant-loop-b : goal.invariant-loop-b
invariant-loop-b l = record {
  seen : Knows top_once l.seen.items (boxes_of (take l.b-index l.boxes));
  so_far : first_fault top_box_fault (boxes_of (take l.b-index l.boxes)) (boxes_of (drop l.b-index l.boxes)) ≡ first_fault top_box_fault [] (boxes_of l.boxes);
}
