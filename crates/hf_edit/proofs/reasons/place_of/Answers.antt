use Rattle.std.proofs.Common.{sym, subst}
use Rattle.hf_store.specs.Lists.{IsIn}
use Rattle.hf_store.specs.Store.{ids_of}
use Rattle.hf_edit.specs.Seen.{edit_of}
use Rattle.hf_edit.proofs.Chains.{why_none}
use Rattle.hf_edit.proofs.reasons.place_of.Goals as goal

pub returns-in_default-clause-reason : goal.returns-in_default-clause-reason
returns-in_default-clause-reason c =
    let s = c.args.store.now in
    why_none s (edit_of c.args.edit.now) (λ there. c.in_default.ensures.none (subst (λ id. IsIn id (ids_of s.items)) (sym c.id.ensures) there))
