use Rattle.hf_info.proofs.InfeWritten.{infe_good}
use Rattle.hf_info.proofs.IinfLemmas.{iinf_good}
use Rattle.hf_info.proofs.laws.entries_are_good.Goals as goal

pub returns-clause-entry : goal.returns-clause-entry
returns-clause-entry c = infe_good

pub returns-clause-entries : goal.returns-clause-entries
returns-clause-entries c = iinf_good

pub returns-clause-distinct : goal.returns-clause-distinct
returns-clause-distinct c = λ b infos r. r.distinct
