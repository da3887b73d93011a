use Rattle.std.proofs.Common.{◌∙◌, [], ap, arith, drop, get_or, map, string_bytes}
use Rattle.std.proofs.lemmas.Result.{err_from_is_err_and}
use Rattle.hf_base.specs.declared.limits.TheConstants.{EDITS}
use Rattle.hf_text.specs.Words.{edit_form, edits_read}
use Rattle.hf_text.proofs.WordLaws.{all_edits, edit_short, edit_long, edits_fault}
use Rattle.hf_text.proofs.words.read_edit_file.Goals as goal

pub returns-then-words-lt3-clause-read : goal.returns-then-words-lt3-clause-read
returns-then-words-lt3-clause-read c = edit_short string_bytes c.args.words.now c.requires (omega arith)

pub returns-in_err-edits-clause-read : goal.returns-in_err-edits-clause-read
returns-in_err-edits-clause-read c =
    let words = map string_bytes c.args.words.now in
    let p = err_from_is_err_and c.from_residual.result c.from_residual.ensures.1 in
    rw (p.1, p.2) (edits_fault words (get_or words 1 []) (get_or words 2 []) (edit_form.read 0 words)
    (edits_read EDITS 3 (drop 3 words)) c.in_err-edits.field-0.0 (edit_long string_bytes c.args.words.now (omega arith)) c.in_err-edits.ensures.read)

pub returns-clause-read : goal.returns-clause-read
returns-clause-read c =
    let words = map string_bytes c.args.words.now in
    edit_long string_bytes c.args.words.now (omega arith) ∙ ap (all_edits (get_or words 1 []) (get_or words 2 [])) c.in_ok-edits.ensures.read
