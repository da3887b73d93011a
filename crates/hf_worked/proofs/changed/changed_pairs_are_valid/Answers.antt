use Rattle.hf_worked.proofs.ValidPairs.{valid_described_pair, valid_pair_of_second, valid_pair_shown, valid_pair_unnamed, valid_pair_turned, valid_pair_upright, valid_pair_and_one, valid_first_described}
use Rattle.hf_worked.proofs.changed.changed_pairs_are_valid.Goals as goal

pub returns : goal.returns
returns c =
    record {
      pair = valid_described_pair;
      primary = valid_pair_of_second;
      shown = valid_pair_shown;
      unnamed = valid_pair_unnamed;
      turned = valid_pair_turned;
      upright = valid_pair_upright;
      added = valid_pair_and_one;
      left = valid_first_described;
    }
