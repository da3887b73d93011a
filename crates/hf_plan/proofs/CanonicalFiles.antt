-- The canonical files of worked stores.
use Rattle.std.proofs.Common.{◌≡◌, ◌+◌, ◌^◌, ◌<◌, ◌≤◌, ℕ, List, length, sym, refl, arith, inl}
use Rattle.hf_store.specs.Store.{ItemStore}
use Rattle.hf_store.specs.Layout.{own, idat_body, mdat_body, laid}
use Rattle.hf_store.specs.Valid.{Valid}
use Rattle.hf_worked.specs.WorkedStores.{one_picture, one_empty_item, greatest_narrow_id, least_wide_id, two_widths, turned_picture, sized_picture, properties_127, properties_128, properties_300, identity_item, overlays, two_alternatives, picture_with_exif, picture_with_xmp, picture_with_thumbnail, every_feature, every_feature_wide, photograph, photograph_redacted, photograph_bare}
use Rattle.hf_worked.specs.WorkedFiles.{file_of_one_picture, file_of_one_empty_item, file_of_greatest_narrow_id, file_of_least_wide_id, file_of_two_widths, file_of_turned_picture, file_of_sized_picture, file_of_identity_item, file_of_overlays, file_of_two_alternatives, file_of_picture_with_exif, file_of_picture_with_xmp, file_of_picture_with_thumbnail, file_of_every_feature, file_of_every_feature_wide}
use Rattle.hf_worked.specs.WorkedPhotograph.{file_of_photograph, file_of_photograph_redacted, file_of_photograph_bare}
use Rattle.hf_worked.specs.WorkedTables.{file_of_properties_127, file_of_properties_128, file_of_properties_300}
use Rattle.hf_worked.proofs.ValidStores.{layout, valid_one_picture, valid_one_empty_item, valid_greatest_narrow_id, valid_least_wide_id, valid_two_widths, valid_turned_picture, valid_sized_picture, valid_properties_127, valid_properties_128, valid_properties_300, valid_identity_item, valid_overlays, valid_two_alternatives, valid_picture_with_exif, valid_picture_with_xmp, valid_picture_with_thumbnail, valid_every_feature, valid_every_feature_wide, valid_photograph, valid_photograph_redacted, valid_photograph_bare}
use Rattle.hf_worked.proofs.LaidFiles.{laid_one_picture, laid_one_empty_item, laid_greatest_narrow_id, laid_least_wide_id, laid_two_widths, laid_turned_picture, laid_sized_picture, laid_properties_127, laid_properties_128, laid_properties_300, laid_identity_item, laid_overlays, laid_two_alternatives, laid_picture_with_exif, laid_picture_with_xmp, laid_picture_with_thumbnail, laid_every_feature, laid_every_feature_wide, laid_photograph, laid_photograph_redacted, laid_photograph_bare}
use Rattle.hf_plan.specs.Canon.{Canon}
use Rattle.hf_plan.proofs.Bounds.{own_homes, written_valid}

-- a layout in a file that has room for all bytes
canon_laid : (s : ItemStore) (F : List ℕ) (n : ℕ) → Valid s → laid own 4 n s ≡ F → length F ≡ n → n < 256 ^ 4 → length (idat_body s.items) + length (mdat_body own s.items) ≤ n → Canon s F
canon_laid s F n valid bytes len few room =
    inl (record { numbers = rw len (written_valid own own_homes 4 n s valid few (omega (arith, few)) room); bytes = rw len (sym bytes) }, omega (arith, len, few))

pub canon_one_picture : Canon one_picture file_of_one_picture
unfolding layout one_picture file_of_one_picture
canon_one_picture = canon_laid one_picture file_of_one_picture 193 valid_one_picture laid_one_picture refl (omega arith) (omega arith)

pub canon_one_empty_item : Canon one_empty_item file_of_one_empty_item
unfolding layout one_empty_item file_of_one_empty_item
canon_one_empty_item = canon_laid one_empty_item file_of_one_empty_item 174 valid_one_empty_item laid_one_empty_item refl (omega arith) (omega arith)

pub canon_greatest_narrow_id : Canon greatest_narrow_id file_of_greatest_narrow_id
unfolding layout greatest_narrow_id file_of_greatest_narrow_id
canon_greatest_narrow_id = canon_laid greatest_narrow_id file_of_greatest_narrow_id 193 valid_greatest_narrow_id laid_greatest_narrow_id refl (omega arith) (omega arith)

pub canon_least_wide_id : Canon least_wide_id file_of_least_wide_id
unfolding layout least_wide_id file_of_least_wide_id
canon_least_wide_id = canon_laid least_wide_id file_of_least_wide_id 203 valid_least_wide_id laid_least_wide_id refl (omega arith) (omega arith)

pub canon_two_widths : Canon two_widths file_of_two_widths
unfolding layout two_widths file_of_two_widths
canon_two_widths = canon_laid two_widths file_of_two_widths 245 valid_two_widths laid_two_widths refl (omega arith) (omega arith)

pub canon_turned_picture : Canon turned_picture file_of_turned_picture
unfolding layout turned_picture file_of_turned_picture
canon_turned_picture = canon_laid turned_picture file_of_turned_picture 206 valid_turned_picture laid_turned_picture refl (omega arith) (omega arith)

pub canon_sized_picture : Canon sized_picture file_of_sized_picture
unfolding layout sized_picture file_of_sized_picture
canon_sized_picture = canon_laid sized_picture file_of_sized_picture 217 valid_sized_picture laid_sized_picture refl (omega arith) (omega arith)

pub canon_properties_127 : Canon properties_127 file_of_properties_127
unfolding layout properties_127 file_of_properties_127
canon_properties_127 = canon_laid properties_127 file_of_properties_127 1466 valid_properties_127 laid_properties_127 refl (omega arith) (omega arith)

pub canon_properties_128 : Canon properties_128 file_of_properties_128
unfolding layout properties_128 file_of_properties_128
canon_properties_128 = canon_laid properties_128 file_of_properties_128 1604 valid_properties_128 laid_properties_128 refl (omega arith) (omega arith)

pub canon_properties_300 : Canon properties_300 file_of_properties_300
unfolding layout properties_300 file_of_properties_300
canon_properties_300 = canon_laid properties_300 file_of_properties_300 3924 valid_properties_300 laid_properties_300 refl (omega arith) (omega arith)

pub canon_identity_item : Canon identity_item file_of_identity_item
unfolding layout identity_item file_of_identity_item
canon_identity_item = canon_laid identity_item file_of_identity_item 240 valid_identity_item laid_identity_item refl (omega arith) (omega arith)

pub canon_overlays : Canon overlays file_of_overlays
unfolding layout overlays file_of_overlays
canon_overlays = canon_laid overlays file_of_overlays 843 valid_overlays laid_overlays refl (omega arith) (omega arith)

pub canon_two_alternatives : Canon two_alternatives file_of_two_alternatives
unfolding layout two_alternatives file_of_two_alternatives
canon_two_alternatives = canon_laid two_alternatives file_of_two_alternatives 267 valid_two_alternatives laid_two_alternatives refl (omega arith) (omega arith)

pub canon_picture_with_exif : Canon picture_with_exif file_of_picture_with_exif
unfolding layout picture_with_exif file_of_picture_with_exif
canon_picture_with_exif = canon_laid picture_with_exif file_of_picture_with_exif 262 valid_picture_with_exif laid_picture_with_exif refl (omega arith) (omega arith)

pub canon_picture_with_xmp : Canon picture_with_xmp file_of_picture_with_xmp
unfolding layout picture_with_xmp file_of_picture_with_xmp
canon_picture_with_xmp = canon_laid picture_with_xmp file_of_picture_with_xmp 278 valid_picture_with_xmp laid_picture_with_xmp refl (omega arith) (omega arith)

pub canon_picture_with_thumbnail : Canon picture_with_thumbnail file_of_picture_with_thumbnail
unfolding layout picture_with_thumbnail file_of_picture_with_thumbnail
canon_picture_with_thumbnail = canon_laid picture_with_thumbnail file_of_picture_with_thumbnail 259 valid_picture_with_thumbnail laid_picture_with_thumbnail refl (omega arith) (omega arith)

pub canon_every_feature : Canon every_feature file_of_every_feature
unfolding layout every_feature file_of_every_feature
canon_every_feature = canon_laid every_feature file_of_every_feature 1121 valid_every_feature laid_every_feature refl (omega arith) (omega arith)

pub canon_every_feature_wide : Canon every_feature_wide file_of_every_feature_wide
unfolding layout every_feature_wide file_of_every_feature_wide
canon_every_feature_wide = canon_laid every_feature_wide file_of_every_feature_wide 1266 valid_every_feature_wide laid_every_feature_wide refl (omega arith) (omega arith)

pub canon_photograph : Canon photograph file_of_photograph
unfolding layout photograph file_of_photograph
canon_photograph = canon_laid photograph file_of_photograph 8852 valid_photograph laid_photograph refl (omega arith) (omega arith)

pub canon_photograph_redacted : Canon photograph_redacted file_of_photograph_redacted
unfolding layout photograph_redacted file_of_photograph_redacted
canon_photograph_redacted = canon_laid photograph_redacted file_of_photograph_redacted 8672 valid_photograph_redacted laid_photograph_redacted refl (omega arith) (omega arith)

pub canon_photograph_bare : Canon photograph_bare file_of_photograph_bare
unfolding layout photograph_bare file_of_photograph_bare
canon_photograph_bare = canon_laid photograph_bare file_of_photograph_bare 8384 valid_photograph_bare laid_photograph_bare refl (omega arith) (omega arith)
