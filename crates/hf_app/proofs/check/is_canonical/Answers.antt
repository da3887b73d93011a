use Rattle.std.proofs.lemmas.Result.{err_from_is_err_and}
use Rattle.hf_app.proofs.Checking.{told_of_store}
use Rattle.hf_app.proofs.check.is_canonical.Goals as goal

pub returns-in_err-store : goal.returns-in_err-store
returns-in_err-store c =
    let p = err_from_is_err_and c.from_residual.result c.from_residual.ensures.1 in
    rw (p.1, p.2) c.in_err-store.ensures

pub returns : goal.returns
returns c = told_of_store c.args.file.now c.in_ok-store.store c.in_ok-store.ensures _ c.is_file_of.ensures
