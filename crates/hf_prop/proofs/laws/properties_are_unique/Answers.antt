use Rattle.hf_prop.proofs.IprpLemmas.{one_value}
use Rattle.hf_prop.proofs.laws.properties_are_unique.Goals as goal

pub returns : goal.returns
returns c = one_value
