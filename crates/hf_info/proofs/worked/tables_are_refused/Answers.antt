use Rattle.std.proofs.Common.{refl}
use Rattle.hf_base.specs.Number.{number}
use Rattle.hf_base.specs.Reading.{front, front_four, front_full}
use Rattle.hf_box.specs.Framing.{cut, box_at, frames_within}
use Rattle.hf_box.specs.Tables.{boxes_from}
use Rattle.hf_info.specs.Infe.{infe_at}
use Rattle.hf_info.specs.Iinf.{with_infe, iinf_at}
use Rattle.hf_info.proofs.worked.tables_are_refused.Goals as goal

pub returns : goal.returns
unfolding number front front_four front_full cut box_at frames_within boxes_from infe_at with_infe iinf_at
returns c = record {
  no_version = refl;
  version = refl;
  count_is_cut = refl;
  wide_count_is_cut = refl;
  short_box = refl;
  open_box = refl;
  box_past_the_end = refl;
  one_too_few = refl;
  one_too_many = refl;
  count_before_entries = refl;
}
