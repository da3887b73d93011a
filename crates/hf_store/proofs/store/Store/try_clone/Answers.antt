use Rattle.std.proofs.Common.{◌≡◌, sym, ap, subst, ◌∙◌}
use Rattle.std.specs.Prelude.{IfOk}
use Rattle.hf_links.specs.Grpl.{groups_of}
use Rattle.hf_store.specs.Counts.{counts_of}
use Rattle.hf_store.specs.Seen.{items_of, store_of}
use Rattle.hf_store.specs.Store.{ItemStore}
use Rattle.hf_store.specs.Valid.{Valid}
use Rattle.hf_store.proofs.store.Store.try_clone.Goals as goal

-- the copies are what they were made of
same : (c : goal.After-assemble)
    → record (store_of c.self.inside) { items = items_of c.in_ok-items.items.items; groups = groups_of c.in_ok-groups.groups.items }
    ≡ store_of c.self.inside
same c =
    let items = c.in_ok-items.ensures ∙ c.deref.ensures.value in
    let groups = c.in_ok-groups.ensures ∙ c.deref-2.ensures.value in
    λ j. record (store_of c.self.inside) { items = items_of (items j); groups = groups_of (groups j) }

pub assemble-requires-clause-valid : goal.assemble-requires-clause-valid
assemble-requires-clause-valid c =
    let items = c.in_ok-items.ensures ∙ c.deref.ensures.value in
    let groups = c.in_ok-groups.ensures ∙ c.deref-2.ensures.value in
    let s = store_of c.self.inside in
    let same : record s { items = items_of c.in_ok-items.items.items; groups = groups_of c.in_ok-groups.groups.items } ≡ s =
    λ j. record s { items = items_of (items j); groups = groups_of (groups j) }
    in
    subst Valid (sym same) c.self.invariant.valid

pub assemble-requires-clause-counted : goal.assemble-requires-clause-counted
assemble-requires-clause-counted c =
    let items = c.in_ok-items.ensures ∙ c.deref.ensures.value in
    let groups = c.in_ok-groups.ensures ∙ c.deref-2.ensures.value in
    let s = store_of c.self.inside in
    let same : record s { items = items_of c.in_ok-items.items.items; groups = groups_of c.in_ok-groups.groups.items } ≡ s =
    λ j. record s { items = items_of (items j); groups = groups_of (groups j) }
    in
    c.self.invariant.counted ∙ ap counts_of (sym same)

pub returns : goal.returns
returns c = subst (λ (s : ItemStore). IfOk c.assemble.result (λ store. store ≡ s)) (same c ∙ c.self.view_is) c.assemble.ensures
