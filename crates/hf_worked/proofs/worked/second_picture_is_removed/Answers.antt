use Rattle.std.proofs.Common.{refl}
use Rattle.hf_worked.specs.WorkedStores.{one_picture, two_pictures}
use Rattle.hf_store.specs.Changes.{cut}
use Rattle.hf_worked.proofs.ValidStores.{layout}
use Rattle.hf_worked.proofs.worked.second_picture_is_removed.Goals as goal

pub returns : goal.returns
unfolding layout one_picture two_pictures cut
returns c = record { long = refl; removed = refl }
