use Rattle.std.proofs.Common.{refl}
use Rattle.hf_base.specs.Number.{number}
use Rattle.hf_edit.specs.Pictures.{picture_size_of}
use Rattle.hf_edit.proofs.worked.pictures_have_sizes.Goals as goal

pub returns : goal.returns
unfolding number picture_size_of
returns c =
    record {
      none = refl;
      turn_alone = refl;
      window_alone = refl;
      size = refl;
      first_size = refl;
      first_size_short = refl;
      second_size_short = refl;
      other_property = refl;
      no_turn = refl;
      one_turn = refl;
      two_turns = refl;
      three_turns = refl;
      turn_before = refl;
      turn_twice = refl;
      turn_long = refl;
      turn_long_before = refl;
      window = refl;
      window_before = refl;
      last_window = refl;
      window_then_turn = refl;
      turn_then_window = refl;
      window_short = refl;
      window_of_part = refl;
      no_width = refl;
      no_height = refl;
      no_width_then_window = refl;
      widest = refl;
      too_wide = refl;
      highest = refl;
      too_high = refl;
      window_too_wide = refl;
    }
