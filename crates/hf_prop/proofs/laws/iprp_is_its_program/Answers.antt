use Rattle.hf_base.specs.declared.limits.TheConstants.{ROWS}
use Rattle.hf_prop.proofs.IprpLemmas.{iprp_again, iprp_take}
use Rattle.hf_prop.proofs.laws.iprp_is_its_program.Goals as goal

pub returns-clause-within : goal.returns-clause-within
returns-clause-within c = λ most b v fits. ((λ h. iprp_again most b v h), (λ e. iprp_take most b v fits e))

pub returns-clause-program : goal.returns-clause-program
returns-clause-program c = λ b v fits. ((λ h. iprp_again ROWS b v h), (λ e. iprp_take ROWS b v fits e))
