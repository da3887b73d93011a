use Rattle.hf_read.proofs.TopLevelLaws.{parts_are, parts_read}
use Rattle.hf_read.proofs.laws.parts_are_their_program.Goals as goal

pub returns : goal.returns
returns c = λ children parts. (parts_read children parts, parts_are children parts)
