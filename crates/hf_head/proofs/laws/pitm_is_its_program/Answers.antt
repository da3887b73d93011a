use Rattle.hf_head.proofs.PitmLemmas.{pitm_found, pitm_only}
use Rattle.hf_head.proofs.laws.pitm_is_its_program.Goals as goal

pub returns : goal.returns
returns c = λ at body id fits. (pitm_only at body id, pitm_found at body id fits)
