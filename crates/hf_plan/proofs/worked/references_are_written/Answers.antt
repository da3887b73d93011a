use Rattle.hf_plan.proofs.CanonicalFiles.{canon_identity_item, canon_overlays, canon_two_alternatives, canon_picture_with_exif, canon_picture_with_xmp, canon_picture_with_thumbnail}
use Rattle.hf_plan.proofs.worked.references_are_written.Goals as goal

pub returns : goal.returns
returns c = record { identity = canon_identity_item; small = canon_overlays; group = canon_two_alternatives; exif = canon_picture_with_exif; xmp = canon_picture_with_xmp; thumbnail = canon_picture_with_thumbnail }
