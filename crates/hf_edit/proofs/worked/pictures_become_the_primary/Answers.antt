use Rattle.std.proofs.Common.{refl}
use Rattle.hf_worked.specs.WorkedChanges.{described_pair, pair_shown}
use Rattle.hf_worked.specs.WorkedStores.{every_feature, photograph, two_pictures}
use Rattle.hf_edit.specs.Worked.{hidden_metadata, second_primary}
use Rattle.hf_edit.proofs.worked.pictures_become_the_primary.Goals as goal

pub returns : goal.returns
unfolding described_pair every_feature hidden_metadata pair_shown photograph second_primary two_pictures
returns c =
    record {
      no_item = refl;
      exif = refl;
      mime = refl;
      uri = refl;
      hidden_metadata = refl;
      tile = refl;
      hidden_minor = refl;
      thumbnail = refl;
      auxiliary = refl;
      grid = refl;
      picture = refl;
      second = refl;
      again = refl;
    }
