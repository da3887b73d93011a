-- The bytes of worked files.
use Rattle.std.proofs.Common.{◌≡◌, refl}
use Rattle.hf_store.specs.Layout.{own, laid}
use Rattle.hf_worked.specs.WorkedStores.{one_picture, one_empty_item, greatest_narrow_id, least_wide_id, two_widths, turned_picture, sized_picture, properties_127, properties_128, properties_300, identity_item, overlays, two_alternatives, picture_with_exif, picture_with_xmp, picture_with_thumbnail, every_feature, every_feature_wide, photograph, photograph_redacted, photograph_bare}
use Rattle.hf_worked.specs.WorkedFiles.{file_of_one_picture, file_of_one_empty_item, file_of_greatest_narrow_id, file_of_least_wide_id, file_of_two_widths, file_of_turned_picture, file_of_sized_picture, file_of_identity_item, file_of_overlays, file_of_two_alternatives, file_of_picture_with_exif, file_of_picture_with_xmp, file_of_picture_with_thumbnail, file_of_every_feature, file_of_every_feature_wide}
use Rattle.hf_worked.specs.WorkedPhotograph.{file_of_photograph, file_of_photograph_redacted, file_of_photograph_bare}
use Rattle.hf_worked.specs.WorkedTables.{file_of_properties_127, file_of_properties_128, file_of_properties_300}
use Rattle.hf_worked.proofs.ValidStores.{layout}

pub laid_one_picture : laid own 4 193 one_picture ≡ file_of_one_picture
unfolding layout one_picture file_of_one_picture
laid_one_picture = refl

pub laid_one_empty_item : laid own 4 174 one_empty_item ≡ file_of_one_empty_item
unfolding layout one_empty_item file_of_one_empty_item
laid_one_empty_item = refl

pub laid_greatest_narrow_id : laid own 4 193 greatest_narrow_id ≡ file_of_greatest_narrow_id
unfolding layout greatest_narrow_id file_of_greatest_narrow_id
laid_greatest_narrow_id = refl

pub laid_least_wide_id : laid own 4 203 least_wide_id ≡ file_of_least_wide_id
unfolding layout least_wide_id file_of_least_wide_id
laid_least_wide_id = refl

pub laid_two_widths : laid own 4 245 two_widths ≡ file_of_two_widths
unfolding layout two_widths file_of_two_widths
laid_two_widths = refl

pub laid_turned_picture : laid own 4 206 turned_picture ≡ file_of_turned_picture
unfolding layout turned_picture file_of_turned_picture
laid_turned_picture = refl

pub laid_sized_picture : laid own 4 217 sized_picture ≡ file_of_sized_picture
unfolding layout sized_picture file_of_sized_picture
laid_sized_picture = refl

pub laid_properties_127 : laid own 4 1466 properties_127 ≡ file_of_properties_127
unfolding layout properties_127 file_of_properties_127
laid_properties_127 = refl

pub laid_properties_128 : laid own 4 1604 properties_128 ≡ file_of_properties_128
unfolding layout properties_128 file_of_properties_128
laid_properties_128 = refl

pub laid_properties_300 : laid own 4 3924 properties_300 ≡ file_of_properties_300
unfolding layout properties_300 file_of_properties_300
laid_properties_300 = refl

pub laid_identity_item : laid own 4 240 identity_item ≡ file_of_identity_item
unfolding layout identity_item file_of_identity_item
laid_identity_item = refl

pub laid_overlays : laid own 4 843 overlays ≡ file_of_overlays
unfolding layout overlays file_of_overlays
laid_overlays = refl

pub laid_two_alternatives : laid own 4 267 two_alternatives ≡ file_of_two_alternatives
unfolding layout two_alternatives file_of_two_alternatives
laid_two_alternatives = refl

pub laid_picture_with_exif : laid own 4 262 picture_with_exif ≡ file_of_picture_with_exif
unfolding layout picture_with_exif file_of_picture_with_exif
laid_picture_with_exif = refl

pub laid_picture_with_xmp : laid own 4 278 picture_with_xmp ≡ file_of_picture_with_xmp
unfolding layout picture_with_xmp file_of_picture_with_xmp
laid_picture_with_xmp = refl

pub laid_picture_with_thumbnail : laid own 4 259 picture_with_thumbnail ≡ file_of_picture_with_thumbnail
unfolding layout picture_with_thumbnail file_of_picture_with_thumbnail
laid_picture_with_thumbnail = refl

pub laid_every_feature : laid own 4 1121 every_feature ≡ file_of_every_feature
unfolding layout every_feature file_of_every_feature
laid_every_feature = refl

pub laid_every_feature_wide : laid own 4 1266 every_feature_wide ≡ file_of_every_feature_wide
unfolding layout every_feature_wide file_of_every_feature_wide
laid_every_feature_wide = refl

pub laid_photograph : laid own 4 8852 photograph ≡ file_of_photograph
unfolding layout photograph file_of_photograph
laid_photograph = refl

pub laid_photograph_redacted : laid own 4 8672 photograph_redacted ≡ file_of_photograph_redacted
unfolding layout photograph_redacted file_of_photograph_redacted
laid_photograph_redacted = refl

pub laid_photograph_bare : laid own 4 8384 photograph_bare ≡ file_of_photograph_bare
unfolding layout photograph_bare file_of_photograph_bare
laid_photograph_bare = refl
