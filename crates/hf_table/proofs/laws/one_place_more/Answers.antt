use Rattle.hf_table.proofs.Tally.{table-length-more, table-sizes-more}
use Rattle.hf_table.proofs.laws.one_place_more.Goals as goal

pub returns : goal.returns
returns c = λ p before after. (table-length-more p before after, table-sizes-more p before after)
