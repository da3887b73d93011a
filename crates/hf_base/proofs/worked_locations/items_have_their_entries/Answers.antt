use Rattle.std.proofs.Common.{refl}
use Rattle.hf_base.proofs.worked_locations.items_have_their_entries.Goals as goal

pub returns : goal.returns
returns c = record { entry = refl; none = refl; sources = refl; joined = refl; order = refl }
