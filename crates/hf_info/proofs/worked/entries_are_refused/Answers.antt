use Rattle.std.proofs.Common.{refl}
use Rattle.hf_base.specs.Number.{number}
use Rattle.hf_base.specs.Reading.{front, front_four, front_full}
use Rattle.hf_box.specs.Framing.{cut, box_at, frames_within}
use Rattle.hf_box.specs.Tables.{boxes_from}
use Rattle.hf_info.specs.Infe.{infe_at}
use Rattle.hf_info.specs.Iinf.{with_infe, iinf_at}
use Rattle.hf_info.proofs.worked.entries_are_refused.Goals as goal

pub returns : goal.returns
unfolding number front front_four front_full cut box_at frames_within boxes_from infe_at with_infe iinf_at
returns c = record {
  cut_to_18_bytes = refl;
  cut_to_19_bytes = refl;
  wide_cut_to_21_bytes = refl;
  no_version = refl;
  version_1 = refl;
  version_4 = refl;
  version_before_id = refl;
  fields_before_id = refl;
  zero_id = refl;
  protected = refl;
  double = refl;
  protected_before_double = refl;
  double_before_later = refl;
  second_is_cut = refl;
}
