use Rattle.hf_read.proofs.ReferenceLaws.{begins}
use Rattle.hf_read.proofs.references.first_kind.Goals as goal

pub returns-clause-found : goal.returns-clause-found
returns-clause-found c = begins c.args.from c.args.boxes.now c.in_ok-first.first.now c.in_ok-first.ensures.value c.if-first-from.false
