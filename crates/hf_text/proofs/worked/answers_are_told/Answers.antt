use Rattle.std.proofs.Common.{refl}
use Rattle.std.specs.Fmt.{digits}
use Rattle.hf_text.specs.Answers.{size_text, trial_text}
use Rattle.hf_text.proofs.worked.answers_are_told.Goals as goal

pub returns : goal.returns
unfolding digits size_text trial_text
returns c = record { yes = refl; no = refl; trial = refl }
