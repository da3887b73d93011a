use Rattle.std.proofs.lemmas.Result.{err_from_is_err_and}
use Rattle.hf_text.specs.Commands.{edit_of}
use Rattle.hf_edit.specs.Seen.{edit_of as edit_seen}
use Rattle.hf_app.proofs.EditChain.{meant_makes, unmeant}
use Rattle.hf_app.proofs.editing.apply.Goals as goal

pub returns-in_err-edit : goal.returns-in_err-edit
returns-in_err-edit c = λ words.
    let p = err_from_is_err_and c.from_residual.result c.from_residual.ensures.1 in
    rw (p.1, p.2) (unmeant c.args.number c.args.store.now c.args.store.now (edit_of words c.args.word.now) c.args.file.now c.in_err-edit.field-0.0
    (c.in_err-edit.ensures words))

pub returns : goal.returns
returns c = λ words.
    let edit = c.in_ok-edit.edit in
    meant_makes c.args.number c.args.store.now _ (edit_of words c.args.word.now) c.args.file.now (edit_seen edit) _ (c.in_ok-edit.ensures words)
    c.apply_meant.ensures
