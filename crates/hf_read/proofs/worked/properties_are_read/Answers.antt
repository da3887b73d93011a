use Rattle.std.proofs.Common.{refl}
use Rattle.hf_read.specs.WorkedFiles.{file_held_by_none, file_turned, file_turned_back, file_properties_127, file_properties_128, file_properties_255}
use Rattle.hf_read.specs.WorkedStores.{store_turned_back}
use Rattle.hf_worked.specs.WorkedStores.{one_picture, turned_picture, properties_127, properties_128}
use Rattle.hf_worked.proofs.ValidStores.{valid_properties_127, valid_properties_128}
use Rattle.hf_read.proofs.Opened.{reads, reads_unchecked}
use Rattle.hf_read.proofs.ReadingLaws.{read_valid}
use Rattle.hf_read.proofs.worked.properties_are_read.Goals as goal

pub returns-clause-held_by_none : goal.returns-clause-held_by_none
unfolding reads file_held_by_none one_picture
returns-clause-held_by_none c = refl

pub returns-clause-turned : goal.returns-clause-turned
unfolding reads file_turned turned_picture
returns-clause-turned c = refl

pub returns-clause-turned_back : goal.returns-clause-turned_back
unfolding reads file_turned_back store_turned_back
returns-clause-turned_back c = refl

pub returns-clause-properties_127 : goal.returns-clause-properties_127
unfolding reads_unchecked file_properties_127 properties_127
returns-clause-properties_127 c = read_valid file_properties_127 properties_127 valid_properties_127 refl

pub returns-clause-properties_128 : goal.returns-clause-properties_128
unfolding reads_unchecked file_properties_128 properties_128
returns-clause-properties_128 c = read_valid file_properties_128 properties_128 valid_properties_128 refl

pub returns-clause-properties_255 : goal.returns-clause-properties_255
unfolding reads file_properties_255
returns-clause-properties_255 c = refl
