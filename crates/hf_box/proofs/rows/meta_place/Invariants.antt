use Rattle.std.proofs.Common.{take}
use Rattle.std.specs.List.{AllByRecursion}
use Rattle.hf_box.specs.Boxes.{boxes_of}
use Rattle.hf_box.specs.Walk.{IsNotMeta}
use Rattle.hf_box.proofs.rows.meta_place.Given as goal

abbrev pub invariant-loop-i : goal.invariant-loop-i
invariant-loop-i l = AllByRecursion IsNotMeta (take l.i (boxes_of l.boxes))
