use Rattle.std.proofs.Common.{◌≡◌, false}
use Rattle.hf_desk.specs.Memory.{memory_outside}
use Rattle.hf_rows.proofs.files.desk_of.Given as goal

abbrev pub invariant-loop-name : goal.invariant-loop-name
invariant-loop-name l = (memory_outside l.desk).creating ≡ false
