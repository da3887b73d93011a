use Rattle.std.proofs.Common.{◌++◌, refl}
use Rattle.hf_box.specs.Head.{box}
use Rattle.hf_box.proofs.HeadLemmas.{boxes-written}
use Rattle.hf_box.proofs.laws.written_box_is_a_box.Goals as goal

pub returns : goal.returns
returns c = λ origin top kind body rest others four fits more. boxes-written (box kind body ++ rest) origin top kind body rest others refl four fits more
