use Rattle.std.proofs.Common.{◌≡◌, ℕ, ◌+◌, ◌<◌, Bool, true, false, ◌&&◌, ◌||◌, List, length, get_or, drop, sym, ap, ◌∙◌}
use Rattle.std.specs.Prelude.{◌==◌}
use Rattle.std.specs.List.{list_any}
use Rattle.std.proofs.lemmas.List.{drop_all}
use Rattle.hf_links.specs.Kinds.{is_need}
use Rattle.hf_store.specs.declared.item.RefList.{RefList}
use Rattle.hf_store.proofs.Mapped.{here_at}
use Rattle.hf_store.proofs.Spots.{drop_here}
use Rattle.hf_deps.proofs.needing.needs.Goals as goal

abbrev test : ℕ → RefList → Bool
test id r = is_need r.kind && list_any (λ to. to == id) r.to

ahead : (id : ℕ) (rs : List RefList) (k : ℕ) (r : RefList) (b : Bool) → k < length rs → r ≡ get_or rs k r → b ≡ test id r
    → list_any (test id) (drop k rs) ≡ b || list_any (test id) (drop (k + 1) rs)
ahead id rs k r b within here is =
    ap (list_any (test id)) (drop_here rs k r (here_at rs k r within here)) ∙ ap (λ x. x || list_any (test id) (drop (k + 1) rs)) (sym is)

pub loop-list-preserved : goal.loop-list-preserved
loop-list-preserved c =
    let rs = c.as_slice-refs.result.now in
    let r = c.list-item.result in
    c.loop-list.invariant
    ∙ ahead c.args.id rs c.loop-list.list-index r false c.loop-list-test.true c.list-item.is (sym c.if-list_needs.false ∙ c.list_needs.ensures)

pub returns-then-list_needs : goal.returns-then-list_needs
returns-then-list_needs c =
    let rs = c.as_slice-refs.result.now in
    let r = c.list-item.result in
    let here = ahead c.args.id rs c.loop-list.list-index r true c.loop-list-test.true c.list-item.is (sym c.if-list_needs.true ∙ c.list_needs.ensures) in
    sym (ap (list_any (test c.args.id)) (sym c.as_slice-refs.ensures) ∙ c.loop-list.invariant ∙ here)

pub returns : goal.returns
returns c =
    let any = list_any (test c.args.id) in
    sym (ap any (sym c.as_slice-refs.ensures) ∙ c.loop-list.invariant ∙ ap any (drop_all c.loop-list.list-index c.as_slice-refs.result.now c.loop-list-test.false))
