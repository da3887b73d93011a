use Rattle.std.proofs.Common.{refl}
use Rattle.hf_base.specs.Number.{num}
use Rattle.hf_box.specs.Head.{box_head, box}
use Rattle.hf_info.specs.Infe.{infe_body}
use Rattle.hf_info.specs.Iinf.{iinf_body}
use Rattle.hf_info.proofs.worked.entries_are_written.Goals as goal

pub returns : goal.returns
unfolding num box_head box infe_body iinf_body
returns c = record {
  narrow = refl;
  wide = refl;
  mime = refl;
  encoding = refl;
  uri = refl;
  table = refl;
  wide_table = refl;
}
