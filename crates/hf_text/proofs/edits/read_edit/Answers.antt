use Rattle.std.proofs.Common.{ap, drop, map, string_bytes, subst, sym, ◌∙◌}
use Rattle.hf_text.specs.Commands.{IsEditRead}
use Rattle.hf_text.specs.Words.{edit_forms, form_read}
use Rattle.hf_text.proofs.EditSteps.{edit_named}
use Rattle.hf_text.proofs.edits.read_edit.Goals as goal

pub returns-in-Some-clause-read : goal.returns-in-Some-clause-read
returns-in-Some-clause-read c =
    let words = map string_bytes c.args.words.now in
    let behind = drop c.args.at words in
    let named = edit_named string_bytes c.args.words.now c.args.at c.index-words-at.result c.requires c.index-words-at.is in
    let same = named ∙ ap (λ name. form_read edit_forms c.args.at name behind) (sym c.as_str.ensures.value) ∙ c.in-Some.ensures c.args.at behind in
    subst (λ read. IsEditRead words read c.read_named.result) (sym same) c.read_named.ensures.read

pub returns-in-None-clause-read : goal.returns-in-None-clause-read
returns-in-None-clause-read c =
    let behind = drop c.args.at (map string_bytes c.args.words.now) in
    let named = edit_named string_bytes c.args.words.now c.args.at c.index-words-at.result c.requires c.index-words-at.is in
    named ∙ ap (λ name. form_read edit_forms c.args.at name behind) (sym c.as_str.ensures.value) ∙ c.in-None.ensures c.args.at behind
