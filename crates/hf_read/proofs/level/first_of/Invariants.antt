use Rattle.std.proofs.Common.{◌≡◌, None, take}
use Rattle.hf_box.specs.Boxes.{boxes_of}
use Rattle.hf_read.specs.TopLevel.{first_of}
use Rattle.hf_read.proofs.level.first_of.Given as goal

abbrev pub invariant-loop-b : goal.invariant-loop-b
invariant-loop-b l = first_of l.kind (boxes_of (take l.b-index l.boxes)) ≡ None
