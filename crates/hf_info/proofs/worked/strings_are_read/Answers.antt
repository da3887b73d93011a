use Rattle.std.proofs.Common.{refl}
use Rattle.hf_base.specs.Number.{number}
use Rattle.hf_base.specs.Reading.{front, front_four, front_full}
use Rattle.hf_box.specs.Framing.{cut, box_at, frames_within}
use Rattle.hf_box.specs.Tables.{boxes_from}
use Rattle.hf_info.specs.Infe.{infe_at}
use Rattle.hf_info.specs.Iinf.{with_infe, iinf_at}
use Rattle.hf_info.proofs.worked.strings_are_read.Goals as goal

pub returns : goal.returns
unfolding number front front_four front_full cut box_at frames_within boxes_from infe_at with_infe iinf_at
returns c = record {
  hidden_mime = refl;
  encoding = refl;
  encoding_ends_with_its_box = refl;
  content_ends_with_its_box = refl;
  name_ends_with_its_box = refl;
  no_byte_is_left = refl;
  uri = refl;
  uri_ends_with_its_box = refl;
  other_type = refl;
}
