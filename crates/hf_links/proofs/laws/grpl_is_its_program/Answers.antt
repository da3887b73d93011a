use Rattle.hf_links.proofs.GrplLemmas.{grpl_again, grpl_take}
use Rattle.hf_links.proofs.laws.grpl_is_its_program.Goals as goal

pub returns : goal.returns
returns c = λ b groups fits. ((λ h. grpl_again b groups h), (λ e. grpl_take b groups fits e))
