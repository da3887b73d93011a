use Rattle.std.proofs.Common.{refl}
use Rattle.std.specs.Fmt.{digits}
use Rattle.hf_text.proofs.worked.outcomes_are_told.Goals as goal

pub returns : goal.returns
unfolding digits
returns c = record { item = refl; needed = refl; full = refl; status = refl }
