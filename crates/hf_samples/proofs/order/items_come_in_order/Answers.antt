use Rattle.std.proofs.Common.{refl}
use Rattle.hf_read.proofs.Opened.{reads}
use Rattle.hf_samples.specs.OrderOfItems.{not_picture_first, pitm_version_first, count_first, zero_id_first, protected_first, item_twice_first}
use Rattle.hf_samples.specs.OrderOfItems.{no_primary_first}
use Rattle.hf_samples.proofs.order.items_come_in_order.Goals as goal

pub returns-clause-not_picture : goal.returns-clause-not_picture
unfolding reads not_picture_first
returns-clause-not_picture c = refl

pub returns-clause-pitm_version : goal.returns-clause-pitm_version
unfolding reads pitm_version_first
returns-clause-pitm_version c = refl

pub returns-clause-count : goal.returns-clause-count
unfolding reads count_first
returns-clause-count c = refl

pub returns-clause-zero_id : goal.returns-clause-zero_id
unfolding reads zero_id_first
returns-clause-zero_id c = refl

pub returns-clause-protected : goal.returns-clause-protected
unfolding reads protected_first
returns-clause-protected c = refl

pub returns-clause-item_twice : goal.returns-clause-item_twice
unfolding reads item_twice_first
returns-clause-item_twice c = refl

pub returns-clause-no_primary : goal.returns-clause-no_primary
unfolding reads no_primary_first
returns-clause-no_primary c = refl
