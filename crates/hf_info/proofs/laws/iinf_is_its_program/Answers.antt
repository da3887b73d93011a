use Rattle.hf_info.proofs.IinfLemmas.{iinf_only, iinf_found}
use Rattle.hf_info.proofs.laws.iinf_is_its_program.Goals as goal

pub returns : goal.returns
returns c = λ b infos fits. (iinf_only b infos, iinf_found b infos fits)
