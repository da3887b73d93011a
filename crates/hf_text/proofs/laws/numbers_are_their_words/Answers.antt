use Rattle.std.proofs.Common.{ap, ◌∙◌}
use Rattle.hf_text.specs.Words.{number_of}
use Rattle.hf_text.proofs.Operands.{number_of-word, number_of-decimal}
use Rattle.hf_text.proofs.laws.numbers_are_their_words.Goals as goal

pub returns : goal.returns
returns c = λ word n. (
  number_of-word word n,
  (λ h. ap number_of h.1 ∙ number_of-decimal n h.0),
)
