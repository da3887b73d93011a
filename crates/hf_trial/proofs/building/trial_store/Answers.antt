use Rattle.std.proofs.Common.{sym, subst, ◌∙◌}
use Rattle.hf_base.specs.declared.limits.TheConstants as limits
use Rattle.hf_store.specs.Valid.{Valid}
use Rattle.hf_trial.proofs.Built.{not_told}
use Rattle.hf_trial.proofs.Valid.{trial_stores_are_valid}
use Rattle.hf_trial.proofs.building.trial_store.Goals as goal

pub build-requires : goal.build-requires
build-requires c =
    let valid = trial_stores_are_valid c.args.seed c.args.n c.requires.some c.requires.few in
    (limits.ITEMS, limits.LINKS, limits.META, subst Valid (sym c.in_ok-parts.ensures) valid)

pub unreachable-requires : goal.unreachable-requires
unreachable-requires c =
    not_told c.args.seed c.args.n _ c.in-Err-Unfit.field-0 c.in-Err-Unfit.field-0-0 c.requires.some c.requires.few
    c.in_ok-parts.ensures c.in-Err-Unfit.field-0-is c.in-Err-Unfit.ensures

pub returns-in-Ok : goal.returns-in-Ok
returns-in-Ok c = c.in-Ok.ensures.0 ∙ c.in_ok-parts.ensures
