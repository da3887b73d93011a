use Rattle.std.proofs.Common.{refl}
use Rattle.std.specs.Fmt.{digits}
use Rattle.hf_text.specs.Words.{number_of, kind_of, operand, edits_read}
use Rattle.hf_text.specs.WorkedWords.{many_edits}
use Rattle.hf_text.proofs.worked_words.usage_of_edits_is_told.Goals as goal

pub returns : goal.returns
unfolding digits number_of kind_of operand edits_read many_edits
returns c = record { out = refl; name = refl; missing = refl; sign = refl; wide = refl; letter = refl; second = refl; zero = refl; large = refl; short = refl; file = refl; text = refl; kind = refl; bytes = refl; many = refl }
