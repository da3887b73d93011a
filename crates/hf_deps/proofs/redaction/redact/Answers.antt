use Rattle.std.proofs.Common.{ℕ, List, sym, ap, subst, ◌∙◌}
use Rattle.std.specs.List.Sorted.{IsStrictlyIncreasing}
use Rattle.hf_store.specs.Changes.{kept_only}
use Rattle.hf_store.specs.Valid.{Valid}
use Rattle.hf_deps.specs.Redacted.{all_bared, redacted}
use Rattle.hf_deps.proofs.Chains.{kept_ids_rise, valid_linked}
use Rattle.hf_deps.proofs.Redactions.{valid_kept}
use Rattle.hf_deps.proofs.Undescribing.{strictly}
use Rattle.hf_deps.proofs.redaction.redact.Goals as goal

pub keep_only-requires-clause-rises : goal.keep_only-requires-clause-rises
keep_only-requires-clause-rises c =
    let s = c.args.store.now in
    let bare = c.args.bare in
    subst IsStrictlyIncreasing (sym c.in_ok-keep.ensures.told) (strictly _ (kept_ids_rise s bare (valid_linked s bare c.valid.ensures)))

pub keep_only-requires-clause-valid : goal.keep_only-requires-clause-valid
keep_only-requires-clause-valid c =
    let s = c.args.store.now in
    subst (λ (ids : List ℕ). Valid (kept_only ids s)) (sym c.in_ok-keep.ensures.told) (valid_kept s c.args.bare c.valid.ensures)

pub returns : goal.returns
unfolding redacted
returns c =
    let kept = ap (λ (ids : List ℕ). all_bared (kept_only ids c.args.store.now)) c.in_ok-keep.ensures.told in
    record { redacted = c.bare_all.ensures ∙ ap all_bared c.keep_only.ensures ∙ kept; unchanged = tt }
