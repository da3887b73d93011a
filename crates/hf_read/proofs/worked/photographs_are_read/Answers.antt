use Rattle.std.proofs.Common.{refl}
use Rattle.hf_read.specs.WorkedFiles.{file_photograph, file_other_exif}
use Rattle.hf_worked.specs.WorkedStores.{photograph}
use Rattle.hf_worked.proofs.ValidStores.{valid_photograph}
use Rattle.hf_read.proofs.Opened.{reads, reads_unchecked}
use Rattle.hf_read.proofs.ReadingLaws.{read_valid}
use Rattle.hf_read.proofs.worked.photographs_are_read.Goals as goal

pub returns-clause-photograph : goal.returns-clause-photograph
unfolding reads_unchecked file_photograph photograph
returns-clause-photograph c = read_valid file_photograph photograph valid_photograph refl

pub returns-clause-other_exif : goal.returns-clause-other_exif
unfolding reads file_other_exif
returns-clause-other_exif c = refl
