use Rattle.std.proofs.Common.{◌≡◌, sym, ap, subst, ◌∙◌}
use Rattle.hf_links.specs.Grpl.{groups_of}
use Rattle.hf_store.specs.Counts.{counts_of}
use Rattle.hf_store.specs.Seen.{items_of, stated}
use Rattle.hf_store.specs.Valid.{Valid}
use Rattle.hf_store.proofs.store.Store.build.Goals as goal

pub assemble-requires-clause-valid : goal.assemble-requires-clause-valid
assemble-requires-clause-valid c =
    let s = stated c.args.parts in
    let same : record s { items = items_of c.into_vec-items.result.items; groups = groups_of c.into_vec-groups.result.items } ≡ s =
    λ j. record s { items = items_of (c.into_vec-items.ensures j); groups = groups_of (c.into_vec-groups.ensures j) }
    in
    subst Valid (sym same) c.in_ok-counts.ensures.1

pub assemble-requires-clause-counted : goal.assemble-requires-clause-counted
assemble-requires-clause-counted c =
    let s = stated c.args.parts in
    let same : record s { items = items_of c.into_vec-items.result.items; groups = groups_of c.into_vec-groups.result.items } ≡ s =
    λ j. record s { items = items_of (c.into_vec-items.ensures j); groups = groups_of (c.into_vec-groups.ensures j) }
    in
    c.in_ok-counts.ensures.0 ∙ ap counts_of (sym same)
