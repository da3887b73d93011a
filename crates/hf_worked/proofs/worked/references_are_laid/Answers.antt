use Rattle.hf_worked.proofs.LaidFiles.{laid_identity_item, laid_overlays, laid_two_alternatives, laid_picture_with_exif, laid_picture_with_xmp, laid_picture_with_thumbnail}
use Rattle.hf_worked.proofs.worked.references_are_laid.Goals as goal

pub returns : goal.returns
returns c = record { identity = laid_identity_item; small = laid_overlays; group = laid_two_alternatives; exif = laid_picture_with_exif; xmp = laid_picture_with_xmp; thumbnail = laid_picture_with_thumbnail }
