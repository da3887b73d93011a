use Rattle.std.proofs.Common.{◌≡◌, [], take, drop}
use Rattle.hf_box.specs.Boxes.{boxes_of}
use Rattle.hf_read.specs.Level.{Knows}
use Rattle.hf_read.specs.TopLevel.{once, first_fault, child_fault}
use Rattle.hf_read.proofs.level.check_children.Given as goal

abbrev pub invariant-loop-b : goal.invariant-loop-b
invariant-loop-b l = record {
  seen : Knows once l.seen.items (boxes_of (take l.b-index l.boxes));
  so_far : first_fault child_fault (boxes_of (take l.b-index l.boxes)) (boxes_of (drop l.b-index l.boxes)) ≡ first_fault child_fault [] (boxes_of l.boxes);
}
