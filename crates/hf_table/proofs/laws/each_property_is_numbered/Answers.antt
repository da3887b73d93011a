use Rattle.hf_table.proofs.Tables.{each_property_is_numbered}
use Rattle.hf_table.proofs.laws.each_property_is_numbered.Goals as goal

pub returns : goal.returns
returns c = each_property_is_numbered
