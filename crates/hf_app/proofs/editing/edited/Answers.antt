use Rattle.std.proofs.Common.{rules}
use Rattle.std.proofs.lemmas.Result.{err_from_is_err_and}
use Rattle.hf_app.specs.Edits.{with_files}
use Rattle.hf_app.proofs.EditChain.{input_stops, edits_stop}
use Rattle.hf_app.proofs.editing.edited.Goals as goal

pub returns-in_err-store : goal.returns-in_err-store
returns-in_err-store c = λ words.
    let p = err_from_is_err_and c.from_residual.result c.from_residual.ensures.1 in
    rw (p.1, p.2) (input_stops c.args.file.now (with_files words c.args.edits.now c.args.files.now) c.in_err-store.field-0.0 c.in_err-store.ensures)

pub returns-in_err-apply_all : goal.returns-in_err-apply_all
returns-in_err-apply_all c = λ words.
    let p = err_from_is_err_and c.from_residual-in_err-apply_all.result c.from_residual-in_err-apply_all.ensures.1 in
    rw (p.1, p.2) (edits_stop c.args.file.now (with_files words c.args.edits.now c.args.files.now) c.in_ok-store.store _ c.in_err-apply_all.field-0.0
    c.in_ok-store.ensures (c.in_err-apply_all.ensures words))

pub returns : goal.returns
returns c = λ words.
    (record { valid = c.valid.ensures; planned = search rules }, (c.in_ok-store.store, c.in_ok-store.ensures, c.in_ok-apply_all.ensures words))
