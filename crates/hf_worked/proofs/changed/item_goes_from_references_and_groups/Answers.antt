use Rattle.std.proofs.Common.{refl}
use Rattle.hf_store.specs.Changes.{cut}
use Rattle.hf_worked.specs.WorkedChanges.{second_in_all, second_gone}
use Rattle.hf_worked.proofs.changed.item_goes_from_references_and_groups.Goals as goal

pub returns : goal.returns
unfolding second_in_all second_gone cut
returns c = record { second = refl; none = refl; first_place = refl; next_place = refl }
