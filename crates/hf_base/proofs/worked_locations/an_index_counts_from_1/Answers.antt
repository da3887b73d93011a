use Rattle.std.proofs.Common.{refl}
use Rattle.hf_base.proofs.worked_locations.an_index_counts_from_1.Goals as goal

pub returns : goal.returns
returns c = record { zero = refl; one = refl; no_item = refl; last = refl; lower = refl; past = refl; far = refl }
