use Rattle.hf_table.proofs.Unique.{tables_are_alike}
use Rattle.hf_table.proofs.laws.tables_are_alike.Goals as goal

pub returns : goal.returns
returns c = tables_are_alike
