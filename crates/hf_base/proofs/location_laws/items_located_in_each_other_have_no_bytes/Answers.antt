use Rattle.hf_base.proofs.ChainLaws.{no_bytes, never_ends, refused_chain}
use Rattle.hf_base.proofs.location_laws.items_located_in_each_other_have_no_bytes.Goals as goal

pub returns : goal.returns
returns c = record {
  none = λ F idat items walk endless levels. no_bytes F idat items walk endless levels;
  endless = λ items walk endless. never_ends items walk endless;
  refused = λ F idat items walk endless is. refused_chain F idat items walk endless is;
}
