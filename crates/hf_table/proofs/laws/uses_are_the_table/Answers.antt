use Rattle.hf_table.proofs.Tally.{kinds-tallied, sizes-tallied}
use Rattle.hf_table.proofs.laws.uses_are_the_table.Goals as goal

pub returns : goal.returns
returns c = λ ps us count t. (kinds-tallied us ps count t, sizes-tallied us ps count t)
