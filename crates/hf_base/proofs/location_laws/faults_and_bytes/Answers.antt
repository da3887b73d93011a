use Rattle.hf_base.proofs.Converse.{placed, no_fault}
use Rattle.hf_base.proofs.location_laws.faults_and_bytes.Goals as goal

pub returns : goal.returns
returns c = λ F idat items. (placed F idat items, no_fault F idat items)
