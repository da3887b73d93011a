use Rattle.hf_info.proofs.IinfLemmas.{all_good, all_few}
use Rattle.hf_info.proofs.iinf.read_iinf.Goals as goal

pub returns-clause-found : goal.returns-clause-found
returns-clause-found c = rw c.requires.kind c.iinf_in.ensures.found

pub returns-clause-only : goal.returns-clause-only
returns-clause-only c = rw c.requires.kind c.iinf_in.ensures.only

pub returns-clause-within : goal.returns-clause-within
returns-clause-within c = all_few _ c.iinf_in.result c.iinf_in.ensures.found

pub returns-clause-good : goal.returns-clause-good
returns-clause-good c = all_good _ c.iinf_in.result c.iinf_in.ensures.found
