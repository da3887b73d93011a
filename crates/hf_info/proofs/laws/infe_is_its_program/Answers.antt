use Rattle.hf_info.proofs.InfeLemmas.{infe_only, infe_found}
use Rattle.hf_info.proofs.laws.infe_is_its_program.Goals as goal

pub returns : goal.returns
returns c = λ at body info fits. (infe_only at body info, infe_found at body info fits)
