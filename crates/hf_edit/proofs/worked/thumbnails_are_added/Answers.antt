use Rattle.std.proofs.Common.{refl}
use Rattle.hf_worked.specs.WorkedChanges.{pair_shown}
use Rattle.hf_worked.specs.WorkedStores.{every_feature, one_picture, photograph, picture_with_exif, picture_with_thumbnail, two_pictures}
use Rattle.hf_worked.proofs.ValidStores.{layout}
use Rattle.hf_edit.specs.Additions.{next_id_of}
use Rattle.hf_edit.specs.Worked.{greatest_beside, hidden_second, metadata_thumbnail, second_as_thumbnail, second_with_thumbnail}
use Rattle.hf_edit.proofs.worked.thumbnails_are_added.Goals as goal

pub returns : goal.returns
unfolding every_feature greatest_beside hidden_second layout metadata_thumbnail next_id_of one_picture pair_shown photograph picture_with_exif picture_with_thumbnail second_as_thumbnail second_with_thumbnail two_pictures
returns c =
    record {
      no_item = refl;
      metadata = refl;
      metadata_as_thumbnail = refl;
      metadata_of_minor = refl;
      minor_metadata = refl;
      thumbnail = refl;
      auxiliary = refl;
      derived_of_minor = refl;
      derived = refl;
      derived_without_ids = refl;
      dimg = refl;
      tbas = refl;
      prem_among_others = refl;
      grid = refl;
      overlay = refl;
      identity = refl;
      no_id = refl;
      minor_as_thumbnail = refl;
      hidden = refl;
      picture = refl;
      added = refl;
      primary_alone = refl;
      second = refl;
    }
