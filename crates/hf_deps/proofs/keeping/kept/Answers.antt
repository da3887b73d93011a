use Rattle.std.proofs.Common.{◌≡◌, ◌↔◌, ℕ, Bool, List, map, filter, sym, subst, ◌∙◌}
use Rattle.std.proofs.lemmas.Result.{IfOk-weaker}
use Rattle.hf_store.specs.Lists.{IsIn}
use Rattle.hf_store.specs.Store.{ids_of}
use Rattle.hf_table.specs.Held.{is_among}
use Rattle.hf_deps.specs.Kept.{Kept, kept_ids}
use Rattle.hf_deps.specs.Reach.{HasEnds, IsReached}
use Rattle.hf_deps.proofs.Chains.{kept_told, told_kept, valid_linked}
use Rattle.hf_deps.proofs.KeptIds.{pairs_end, reached_ids}
use Rattle.hf_deps.proofs.keeping.kept.Goals as goal

pub reach-requires-clause-ends : goal.reach-requires-clause-ends
reach-requires-clause-ends c =
    let s = c.args.store.now in
    let pairs = c.in_ok-pairs.pairs.items in
    subst (HasEnds (ids_of s.items)) (sym c.deref.ensures.value) (pairs_end s c.args.bare c.valid.ensures pairs c.in_ok-pairs.ensures.moved)

-- the ids that are marked
told : (c : goal.After-drop-pairs-2) (ids : List ℕ)
    → ((test : ℕ → Bool) → c.deref-2.result.now ≡ map test (ids_of c.args.store.now.items) → ids ≡ filter test (ids_of c.args.store.now.items))
    → ids ≡ kept_ids c.args.bare c.args.store.now
told c ids picked =
    let s = c.args.store.now in
    let pairs = c.in_ok-pairs.pairs.items in
    let reached = c.in_ok-reached.reached.ids.items in
    let exact : IsReached pairs s.primary reached = subst (λ l. IsReached l s.primary reached) c.deref.ensures.value c.in_ok-reached.ensures.exact in
    picked (is_among reached) (c.deref-2.ensures.value ∙ c.in_ok-reached.ensures.marked.marks_are)
    ∙ reached_ids s c.args.bare c.valid.ensures pairs c.in_ok-pairs.ensures.moved reached exact

pub returns-clause-told : goal.returns-clause-told
returns-clause-told c = IfOk-weaker c.marked_ids.result _ (λ (ids : List ℕ). ids ≡ kept_ids c.args.bare c.args.store.now) (told c) c.marked_ids.ensures

pub returns-clause-kept : goal.returns-clause-kept
returns-clause-kept c =
    let s = c.args.store.now in
    let bare = c.args.bare in
    let linked = valid_linked s bare c.valid.ensures in
    IfOk-weaker c.marked_ids.result _ (λ (ids : List ℕ). (id : ℕ) → IsIn id ids ↔ Kept s bare id)
    (λ ids picked id.
    let same = told c ids picked in
    (λ h. told_kept s bare id (subst (IsIn id) same h), λ kept. subst (IsIn id) (sym same) (kept_told s bare linked id kept)))
    c.marked_ids.ensures
