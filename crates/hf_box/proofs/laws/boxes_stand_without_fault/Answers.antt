use Rattle.hf_base.specs.declared.limits.TheConstants.{BOXES}
use Rattle.hf_box.proofs.BoxLaws.{not_both, no_fault}
use Rattle.hf_box.proofs.laws.boxes_stand_without_fault.Goals as goal

pub returns : goal.returns
returns c = λ bytes origin top fits. (
  (λ h e k. not_both BOXES bytes origin top h.0 e h.1 h.2 k),
  (λ none. no_fault bytes origin top fits none),
)
