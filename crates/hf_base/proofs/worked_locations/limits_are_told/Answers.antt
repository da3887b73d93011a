use Rattle.std.proofs.Common.{refl}
use Rattle.hf_base.proofs.worked_locations.limits_are_told.Goals as goal

pub returns : goal.returns
returns c = record { leaves = refl; a_leaf_more = refl; bytes = refl; a_byte_more = refl; greatest = refl; stops = refl }
