use Rattle.hf_text.specs.Words.{command_read}
use Rattle.hf_text.proofs.WordLaws.{command-reads}
use Rattle.hf_app.proofs.SomethingDue.{something_due}
use Rattle.hf_app.proofs.laws.something_is_due.Goals as goal

pub returns : goal.returns
returns c = λ words files bytes defined. something_due files bytes (command_read words) (λ command is. (command-reads words command is).0) defined
