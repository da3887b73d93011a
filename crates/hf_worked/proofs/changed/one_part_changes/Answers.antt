use Rattle.std.proofs.Common.{refl}
use Rattle.hf_store.specs.Changes.{cut}
use Rattle.hf_worked.specs.WorkedChanges.{described_pair, first_described, pair_and_one, pair_of_second, pair_shown, pair_turned, pair_unnamed, pair_upright}
use Rattle.hf_worked.proofs.changed.one_part_changes.Goals as goal

pub returns : goal.returns
unfolding described_pair first_described pair_and_one pair_of_second pair_shown pair_turned pair_unnamed pair_upright cut
returns c = record { primary = refl; shown = refl; unnamed = refl; turned = refl; upright = refl; absent = refl; added = refl; left = refl; removed = refl; all = refl }
