use Rattle.std.proofs.Common.{refl}
use Rattle.hf_text.specs.Words.{command_read}
use Rattle.hf_text.proofs.WordLaws.{usage-at, usage-none, at-usage}
use Rattle.hf_text.proofs.laws.usage_is_at_one_place.Goals as goal

pub returns : goal.returns
returns c = λ words at. (
  (λ e. (usage-none words at e, usage-at words at e)),
  (λ h. at-usage words at (command_read words) refl h.0 h.1),
)
