use Rattle.hf_links.proofs.IrefLemmas.{one_value}
use Rattle.hf_links.proofs.laws.references_are_unique.Goals as goal

pub returns : goal.returns
returns c = one_value
