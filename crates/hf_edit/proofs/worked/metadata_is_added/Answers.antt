use Rattle.std.proofs.Common.{refl}
use Rattle.hf_worked.specs.WorkedChanges.{described_pair}
use Rattle.hf_worked.specs.WorkedStores.{one_picture, photograph, picture_with_exif, picture_with_xmp}
use Rattle.hf_worked.proofs.ValidStores.{layout}
use Rattle.hf_edit.specs.Additions.{next_id_of}
use Rattle.hf_edit.specs.Worked.{greatest_beside, pair_with_exif, pair_with_xmp}
use Rattle.hf_edit.proofs.worked.metadata_is_added.Goals as goal

pub returns : goal.returns
unfolding described_pair greatest_beside layout next_id_of one_picture pair_with_exif pair_with_xmp photograph picture_with_exif picture_with_xmp
returns c =
    record {
      no_item = refl;
      no_item_xmp = refl;
      metadata = refl;
      metadata_xmp = refl;
      metadata_without_ids = refl;
      no_id = refl;
      no_id_xmp = refl;
      no_id_past_group = refl;
      picture = refl;
      picture_xmp = refl;
      hidden_minor = refl;
      exif = refl;
      xmp = refl;
      second_exif = refl;
      second_xmp = refl;
    }
