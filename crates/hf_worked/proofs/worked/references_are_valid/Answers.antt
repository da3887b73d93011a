use Rattle.hf_worked.proofs.ValidStores.{valid_identity_item, valid_overlays, valid_two_alternatives, valid_picture_with_exif, valid_picture_with_xmp, valid_picture_with_thumbnail}
use Rattle.hf_worked.proofs.worked.references_are_valid.Goals as goal

pub returns : goal.returns
returns c = record { identity = valid_identity_item; small = valid_overlays; group = valid_two_alternatives; exif = valid_picture_with_exif; xmp = valid_picture_with_xmp; thumbnail = valid_picture_with_thumbnail }
