use Rattle.hf_links.proofs.GrplLemmas.{one_value}
use Rattle.hf_links.proofs.laws.groups_are_unique.Goals as goal

pub returns : goal.returns
returns c = one_value
