use Rattle.std.proofs.Common.{refl}
use Rattle.hf_worked.specs.WorkedChanges.{described_pair, second_in_all}
use Rattle.hf_worked.specs.WorkedStores.{photograph}
use Rattle.hf_edit.specs.Worked.{pair_unsized}
use Rattle.hf_edit.proofs.worked.properties_are_dropped.Goals as goal

pub returns : goal.returns
unfolding described_pair pair_unsized photograph second_in_all
returns c =
    record {
      no_item = refl;
      none = refl;
      none_of_metadata = refl;
      essential = refl;
      one_essential = refl;
      other_essential = refl;
      metadata = refl;
      size = refl;
      all = refl;
      others = refl;
    }
