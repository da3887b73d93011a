use Rattle.std.proofs.Common.{refl}
use Rattle.hf_worked.specs.WorkedChanges.{described_pair}
use Rattle.hf_worked.specs.WorkedStores.{one_picture, photograph}
use Rattle.hf_worked.proofs.ValidStores.{layout}
use Rattle.hf_edit.specs.Pictures.{mirrored}
use Rattle.hf_edit.proofs.worked.pictures_are_mirrored.Goals as goal

pub returns : goal.returns
unfolding described_pair layout mirrored one_picture photograph
returns c =
    record {
      no_item = refl;
      metadata = refl;
      metadata_at_no_axis = refl;
      no_axis = refl;
      no_axis_of_full = refl;
      full = refl;
      full_and_other = refl;
      full_and_mirrored = refl;
      first_axis = refl;
      second_axis = refl;
      hidden_minor = refl;
      mirrored = refl;
      mirrored_at_second = refl;
      mirrored_twice = refl;
      mirrored_at_both = refl;
      low_bit = refl;
      optional_before = refl;
      two_bytes_before = refl;
      other_last = refl;
      others_stay = refl;
      second = refl;
    }
