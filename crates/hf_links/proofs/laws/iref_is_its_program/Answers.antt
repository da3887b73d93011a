use Rattle.hf_links.proofs.IrefLemmas.{iref_again, iref_take}
use Rattle.hf_links.proofs.laws.iref_is_its_program.Goals as goal

pub returns : goal.returns
returns c = λ b links fits. ((λ h. iref_again b links h), (λ e. iref_take b links fits e))
