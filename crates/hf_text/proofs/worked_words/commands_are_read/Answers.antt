use Rattle.std.proofs.Common.{refl}
use Rattle.std.specs.Fmt.{digits}
use Rattle.hf_text.specs.Words.{number_of, count_of, kind_of, bare_of, operand, end_in, edits_read}
use Rattle.hf_text.specs.WorkedWords.{each_edit, each_edit_words}
use Rattle.hf_text.proofs.worked_words.commands_are_read.Goals as goal

pub returns : goal.returns
unfolding digits number_of count_of kind_of bare_of operand end_in edits_read each_edit each_edit_words
returns c = record { boxes = refl; list = refl; check = refl; extract = refl; redact = refl; bare = refl; trial = refl; none = refl; edits = refl }
