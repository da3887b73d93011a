use Rattle.hf_prop.proofs.WrittenLemmas.{ipma_is}
use Rattle.hf_prop.proofs.laws.written_entries_come_back.Goals as goal

pub returns : goal.returns
returns c = ipma_is
