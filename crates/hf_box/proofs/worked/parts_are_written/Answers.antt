use Rattle.std.proofs.Common.{refl}
use Rattle.hf_base.specs.Number.{num}
use Rattle.hf_box.specs.WorkedBoxes.{free, digits}
use Rattle.hf_box.proofs.worked.parts_are_written.Goals as goal

pub returns : goal.returns
unfolding num free digits
returns c = record { marked = refl; unmarked = refl; narrow = refl; wide = refl; narrow_version = refl; wide_version = refl; string = refl; kind = refl; digits = refl }
