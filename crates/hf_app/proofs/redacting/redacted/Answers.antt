use Rattle.std.proofs.Common.{rules}
use Rattle.std.proofs.lemmas.Result.{err_from_is_err_and}
use Rattle.hf_app.proofs.redacting.redacted.Goals as goal

pub returns-in_err-store : goal.returns-in_err-store
returns-in_err-store c =
    let p = err_from_is_err_and c.from_residual.result c.from_residual.ensures.1 in
    rw (p.1, p.2) c.in_err-store.ensures

pub returns : goal.returns
returns c = (c.in_ok-store.store, c.in_ok-store.ensures, (record { valid = c.valid.ensures; planned = search rules }, search rules))
