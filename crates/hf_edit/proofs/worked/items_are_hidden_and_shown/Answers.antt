use Rattle.std.proofs.Common.{refl}
use Rattle.hf_worked.specs.BadStores.{primary_of_none}
use Rattle.hf_worked.specs.WorkedChanges.{described_pair, pair_shown}
use Rattle.hf_worked.specs.WorkedStores.{photograph}
use Rattle.hf_edit.specs.Worked.{hidden_metadata}
use Rattle.hf_edit.proofs.worked.items_are_hidden_and_shown.Goals as goal

pub returns : goal.returns
unfolding described_pair hidden_metadata pair_shown photograph primary_of_none
returns c =
    record {
      hide_no_item = refl;
      hide_no_item_as_primary = refl;
      hide_primary = refl;
      hide_metadata = refl;
      hide_again = refl;
      metadata_hidden = refl;
      hidden = refl;
      hidden_again = refl;
      show_no_item = refl;
      show_primary = refl;
      show_metadata = refl;
      shown = refl;
      shown_again = refl;
      hidden_then_shown = refl;
    }
