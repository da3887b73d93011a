use Rattle.hf_app.proofs.OneDue.{one_due}
use Rattle.hf_app.proofs.laws.one_thing_is_due.Goals as goal

pub returns : goal.returns
returns c = one_due
