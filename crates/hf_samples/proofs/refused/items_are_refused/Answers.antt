use Rattle.std.proofs.Common.{refl}
use Rattle.hf_read.proofs.Opened.{reads}
use Rattle.hf_samples.specs.RefusedItems.{not_picture_files, zero_id_files, protected_files, double_item_files, no_primary_files, double_location_files}
use Rattle.hf_samples.specs.RefusedItems.{dangling_need_files, double_assoc_files, bad_property_files, double_group_files}
use Rattle.hf_samples.proofs.refused.items_are_refused.Goals as goal

pub returns-clause-not_picture : goal.returns-clause-not_picture
unfolding reads not_picture_files
returns-clause-not_picture c = refl

pub returns-clause-zero_id : goal.returns-clause-zero_id
unfolding reads zero_id_files
returns-clause-zero_id c = refl

pub returns-clause-protected : goal.returns-clause-protected
unfolding reads protected_files
returns-clause-protected c = refl

pub returns-clause-double_item : goal.returns-clause-double_item
unfolding reads double_item_files
returns-clause-double_item c = refl

pub returns-clause-no_primary : goal.returns-clause-no_primary
unfolding reads no_primary_files
returns-clause-no_primary c = refl

pub returns-clause-double_location : goal.returns-clause-double_location
unfolding reads double_location_files
returns-clause-double_location c = refl

pub returns-clause-dangling_need : goal.returns-clause-dangling_need
unfolding reads dangling_need_files
returns-clause-dangling_need c = refl

pub returns-clause-double_assoc : goal.returns-clause-double_assoc
unfolding reads double_assoc_files
returns-clause-double_assoc c = refl

pub returns-clause-bad_property : goal.returns-clause-bad_property
unfolding reads bad_property_files
returns-clause-bad_property c = refl

pub returns-clause-double_group : goal.returns-clause-double_group
unfolding reads double_group_files
returns-clause-double_group c = refl
