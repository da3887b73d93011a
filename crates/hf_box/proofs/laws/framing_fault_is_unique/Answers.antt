use Rattle.hf_base.specs.declared.limits.TheConstants.{BOXES}
use Rattle.hf_box.proofs.BoxLaws.{same_fault}
use Rattle.hf_box.proofs.laws.framing_fault_is_unique.Goals as goal

pub returns : goal.returns
returns c = same_fault BOXES
