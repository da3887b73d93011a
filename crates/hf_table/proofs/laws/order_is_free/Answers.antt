use Rattle.hf_table.proofs.Tally.{table-length-permuted, table-sizes-permuted}
use Rattle.hf_table.proofs.laws.order_is_free.Goals as goal

pub returns : goal.returns
returns c = λ ps qs h. (table-length-permuted ps qs h, table-sizes-permuted ps qs h)
