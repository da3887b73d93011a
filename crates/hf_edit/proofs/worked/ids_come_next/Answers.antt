use Rattle.std.proofs.Common.{refl}
use Rattle.hf_worked.specs.WorkedChanges.{second_in_all}
use Rattle.hf_worked.specs.WorkedStores.{one_picture, photograph, two_alternatives}
use Rattle.hf_edit.specs.Additions.{next_id_of}
use Rattle.hf_edit.specs.Worked.{greatest_beside}
use Rattle.hf_edit.proofs.worked.ids_come_next.Goals as goal

pub returns : goal.returns
unfolding greatest_beside next_id_of one_picture photograph second_in_all two_alternatives
returns c =
    record {
      picture = refl;
      photograph = refl;
      group = refl;
      group_below = refl;
      last_group = refl;
      last_id = refl;
      none_after_item = refl;
      none_after_group = refl;
    }
