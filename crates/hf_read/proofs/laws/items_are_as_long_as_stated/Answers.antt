use Rattle.hf_read.specs.Reading.{idat_of}
use Rattle.hf_read.proofs.ItemLaws.{lengths_are}
use Rattle.hf_read.proofs.laws.items_are_as_long_as_stated.Goals as goal

pub returns : goal.returns
returns c = λ F s d. lengths_are F (idat_of d.parts) d.tables s.items d.items
