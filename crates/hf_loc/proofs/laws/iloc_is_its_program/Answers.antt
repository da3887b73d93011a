use Rattle.hf_base.specs.declared.limits.TheConstants.{ROWS}
use Rattle.hf_loc.proofs.IlocLemmas.{iloc_again, iloc_take}
use Rattle.hf_loc.proofs.laws.iloc_is_its_program.Goals as goal

pub returns-clause-within : goal.returns-clause-within
returns-clause-within c = λ most at body locs fits. (λ h. iloc_again most at body locs h.0 h.1, iloc_take most at body locs fits)

pub returns-clause-program : goal.returns-clause-program
returns-clause-program c = λ at body locs fits. (λ h. iloc_again ROWS at body locs h.0 h.1, iloc_take ROWS at body locs fits)
