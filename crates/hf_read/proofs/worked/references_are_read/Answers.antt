use Rattle.std.proofs.Common.{refl}
use Rattle.hf_read.specs.WorkedFiles.{file_identity, file_needing, file_to_no_item, file_exif, file_xmp, file_thumbnail}
use Rattle.hf_read.specs.WorkedStores.{store_needing}
use Rattle.hf_worked.specs.WorkedStores.{identity_item, two_pictures, picture_with_exif, picture_with_xmp, picture_with_thumbnail}
use Rattle.hf_read.proofs.Opened.{reads}
use Rattle.hf_read.proofs.worked.references_are_read.Goals as goal

pub returns-clause-identity : goal.returns-clause-identity
unfolding reads file_identity identity_item
returns-clause-identity c = refl

pub returns-clause-needing : goal.returns-clause-needing
unfolding reads file_needing store_needing
returns-clause-needing c = refl

pub returns-clause-to_no_item : goal.returns-clause-to_no_item
unfolding reads file_to_no_item two_pictures
returns-clause-to_no_item c = refl

pub returns-clause-exif : goal.returns-clause-exif
unfolding reads file_exif picture_with_exif
returns-clause-exif c = refl

pub returns-clause-xmp : goal.returns-clause-xmp
unfolding reads file_xmp picture_with_xmp
returns-clause-xmp c = refl

pub returns-clause-thumbnail : goal.returns-clause-thumbnail
unfolding reads file_thumbnail picture_with_thumbnail
returns-clause-thumbnail c = refl
