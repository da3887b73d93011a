use Rattle.std.proofs.Common.{refl}
use Rattle.std.specs.Fmt.{digits}
use Rattle.hf_text.specs.Words.{number_of, count_of, bare_of, operand, end_in}
use Rattle.hf_text.proofs.worked_words.usage_is_told.Goals as goal

pub returns : goal.returns
unfolding digits number_of count_of bare_of operand end_in
returns c = record { none = refl; name = refl; boxes = refl; list = refl; check = refl; out = refl; extract = refl; longer = refl; redact = refl; bare = refl; few = refl; many = refl; seed = refl }
