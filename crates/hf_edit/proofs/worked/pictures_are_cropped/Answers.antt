use Rattle.std.proofs.Common.{refl}
use Rattle.hf_base.specs.Number.{number}
use Rattle.hf_prop.specs.Views.{window_body}
use Rattle.hf_worked.specs.WorkedChanges.{described_pair}
use Rattle.hf_worked.specs.WorkedStores.{one_picture, photograph, turned_picture}
use Rattle.hf_worked.proofs.ValidStores.{layout}
use Rattle.hf_edit.specs.Pictures.{cropped, picture_size_of}
use Rattle.hf_edit.proofs.worked.pictures_are_cropped.Goals as goal

pub returns : goal.returns
unfolding cropped described_pair layout number one_picture photograph picture_size_of turned_picture window_body
returns c =
    record {
      no_item = refl;
      metadata = refl;
      no_size = refl;
      no_size_and_no_width = refl;
      no_width = refl;
      no_height = refl;
      past_width = refl;
      past_height = refl;
      past_turned_width = refl;
      outside_full = refl;
      full = refl;
      all = refl;
      corner = refl;
      hidden_minor = refl;
      grid = refl;
      top_left = refl;
      middle = refl;
      turned = refl;
      cropped_again = refl;
    }
