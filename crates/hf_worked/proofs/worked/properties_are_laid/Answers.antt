use Rattle.hf_worked.proofs.LaidFiles.{laid_turned_picture, laid_sized_picture, laid_properties_127, laid_properties_128, laid_properties_300}
use Rattle.hf_worked.proofs.worked.properties_are_laid.Goals as goal

pub returns : goal.returns
returns c = record { turned = laid_turned_picture; sized = laid_sized_picture; seven_bits = laid_properties_127; one_more = laid_properties_128; many = laid_properties_300 }
