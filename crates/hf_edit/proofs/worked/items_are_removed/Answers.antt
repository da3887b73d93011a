use Rattle.std.proofs.Common.{refl}
use Rattle.hf_worked.specs.BadStores.{primary_of_none}
use Rattle.hf_store.specs.Changes.{cut}
use Rattle.hf_worked.specs.WorkedChanges.{second_gone, second_in_all}
use Rattle.hf_worked.specs.WorkedStores.{identity_item, one_picture, photograph, two_pictures}
use Rattle.hf_edit.proofs.worked.items_are_removed.Goals as goal

pub returns : goal.returns
unfolding cut identity_item one_picture photograph primary_of_none second_gone second_in_all two_pictures
returns c =
    record {
      no_item = refl;
      no_item_as_primary = refl;
      primary = refl;
      primary_that_is_needed = refl;
      tile = refl;
      metadata = refl;
      picture = refl;
      links = refl;
    }
