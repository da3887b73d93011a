use Rattle.hf_app.proofs.Forgetting.{forgotten_edit}
use Rattle.hf_app.proofs.laws.redactions_forget_edits.Goals as goal

pub returns : goal.returns
returns c = forgotten_edit
