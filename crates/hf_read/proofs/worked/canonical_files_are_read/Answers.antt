use Rattle.std.proofs.Common.{refl}
use Rattle.hf_worked.specs.WorkedFiles.{file_of_one_empty_item, file_of_greatest_narrow_id, file_of_least_wide_id, file_of_two_widths, file_of_turned_picture, file_of_sized_picture, file_of_identity_item, file_of_overlays, file_of_two_alternatives, file_of_picture_with_exif, file_of_picture_with_xmp, file_of_picture_with_thumbnail, file_of_every_feature, file_of_every_feature_wide}
use Rattle.hf_worked.specs.WorkedPhotograph.{file_of_photograph, file_of_photograph_redacted, file_of_photograph_bare}
use Rattle.hf_worked.specs.WorkedStores.{one_empty_item, greatest_narrow_id, least_wide_id, two_widths, turned_picture, sized_picture, identity_item, overlays, two_alternatives, picture_with_exif, picture_with_xmp, picture_with_thumbnail, every_feature, every_feature_wide, properties_127, properties_128, properties_300, photograph, photograph_redacted, photograph_bare}
use Rattle.hf_worked.specs.WorkedTables.{file_of_properties_127, file_of_properties_128, file_of_properties_300}
use Rattle.hf_worked.proofs.ValidStores.{valid_every_feature, valid_every_feature_wide, valid_properties_127, valid_properties_128, valid_properties_300, valid_photograph, valid_photograph_redacted, valid_photograph_bare}
use Rattle.hf_read.proofs.Opened.{reads, reads_unchecked}
use Rattle.hf_read.proofs.ReadingLaws.{read_valid}
use Rattle.hf_read.proofs.worked.canonical_files_are_read.Goals as goal

pub returns-clause-one_empty_item : goal.returns-clause-one_empty_item
unfolding reads file_of_one_empty_item one_empty_item
returns-clause-one_empty_item c = refl

pub returns-clause-greatest_narrow_id : goal.returns-clause-greatest_narrow_id
unfolding reads file_of_greatest_narrow_id greatest_narrow_id
returns-clause-greatest_narrow_id c = refl

pub returns-clause-least_wide_id : goal.returns-clause-least_wide_id
unfolding reads file_of_least_wide_id least_wide_id
returns-clause-least_wide_id c = refl

pub returns-clause-two_widths : goal.returns-clause-two_widths
unfolding reads file_of_two_widths two_widths
returns-clause-two_widths c = refl

pub returns-clause-turned_picture : goal.returns-clause-turned_picture
unfolding reads file_of_turned_picture turned_picture
returns-clause-turned_picture c = refl

pub returns-clause-sized_picture : goal.returns-clause-sized_picture
unfolding reads file_of_sized_picture sized_picture
returns-clause-sized_picture c = refl

pub returns-clause-identity_item : goal.returns-clause-identity_item
unfolding reads file_of_identity_item identity_item
returns-clause-identity_item c = refl

pub returns-clause-overlays : goal.returns-clause-overlays
unfolding reads file_of_overlays overlays
returns-clause-overlays c = refl

pub returns-clause-two_alternatives : goal.returns-clause-two_alternatives
unfolding reads file_of_two_alternatives two_alternatives
returns-clause-two_alternatives c = refl

pub returns-clause-picture_with_exif : goal.returns-clause-picture_with_exif
unfolding reads file_of_picture_with_exif picture_with_exif
returns-clause-picture_with_exif c = refl

pub returns-clause-picture_with_xmp : goal.returns-clause-picture_with_xmp
unfolding reads file_of_picture_with_xmp picture_with_xmp
returns-clause-picture_with_xmp c = refl

pub returns-clause-picture_with_thumbnail : goal.returns-clause-picture_with_thumbnail
unfolding reads file_of_picture_with_thumbnail picture_with_thumbnail
returns-clause-picture_with_thumbnail c = refl

pub returns-clause-every_feature : goal.returns-clause-every_feature
unfolding reads_unchecked file_of_every_feature every_feature
returns-clause-every_feature c = read_valid file_of_every_feature every_feature valid_every_feature refl

pub returns-clause-every_feature_wide : goal.returns-clause-every_feature_wide
unfolding reads_unchecked file_of_every_feature_wide every_feature_wide
returns-clause-every_feature_wide c = read_valid file_of_every_feature_wide every_feature_wide valid_every_feature_wide refl

pub returns-clause-properties_127 : goal.returns-clause-properties_127
unfolding reads_unchecked file_of_properties_127 properties_127
returns-clause-properties_127 c = read_valid file_of_properties_127 properties_127 valid_properties_127 refl

pub returns-clause-properties_128 : goal.returns-clause-properties_128
unfolding reads_unchecked file_of_properties_128 properties_128
returns-clause-properties_128 c = read_valid file_of_properties_128 properties_128 valid_properties_128 refl

pub returns-clause-properties_300 : goal.returns-clause-properties_300
unfolding reads_unchecked file_of_properties_300 properties_300
returns-clause-properties_300 c = read_valid file_of_properties_300 properties_300 valid_properties_300 refl

pub returns-clause-photograph : goal.returns-clause-photograph
unfolding reads_unchecked file_of_photograph photograph
returns-clause-photograph c = read_valid file_of_photograph photograph valid_photograph refl

pub returns-clause-photograph_redacted : goal.returns-clause-photograph_redacted
unfolding reads_unchecked file_of_photograph_redacted photograph_redacted
returns-clause-photograph_redacted c = read_valid file_of_photograph_redacted photograph_redacted valid_photograph_redacted refl

pub returns-clause-photograph_bare : goal.returns-clause-photograph_bare
unfolding reads_unchecked file_of_photograph_bare photograph_bare
returns-clause-photograph_bare c = read_valid file_of_photograph_bare photograph_bare valid_photograph_bare refl
