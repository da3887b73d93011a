use Rattle.std.proofs.Common.{refl}
use Rattle.hf_worked.specs.WorkedChanges.{described_pair}
use Rattle.hf_worked.specs.WorkedStores.{one_picture, photograph, turned_picture}
use Rattle.hf_worked.proofs.ValidStores.{layout}
use Rattle.hf_edit.specs.Pictures.{rotated}
use Rattle.hf_edit.proofs.worked.pictures_are_turned.Goals as goal

pub returns : goal.returns
unfolding described_pair layout one_picture photograph rotated turned_picture
returns c =
    record {
      no_item = refl;
      no_item_turned_wrongly = refl;
      metadata = refl;
      metadata_turned_wrongly = refl;
      no_quarter = refl;
      four_quarters = refl;
      wrong_turn_of_full = refl;
      full = refl;
      full_and_turned = refl;
      nearly_full = refl;
      one = refl;
      three = refl;
      hidden_minor = refl;
      turned = refl;
      turned_by_three = refl;
      turned_more = refl;
      turned_back = refl;
      turned_past = refl;
      no_turn_before = refl;
      low_bits = refl;
      optional_before = refl;
      two_bytes_before = refl;
      other_last = refl;
      mirror_last = refl;
      others_before = refl;
      others_stay = refl;
      second = refl;
    }
