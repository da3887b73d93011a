use Rattle.std.proofs.Common.{arith, length, sym, ap, ◌∙◌, ◌≡◌, ◌+◌, ◌++◌, ◌∷◌, [], take, None}
use Rattle.hf_base.specs.Located.{located_items, loc_of}
use Rattle.std.proofs.lemmas.List.{take_more, with_items_is}
use Rattle.hf_extent.specs.Seen.{items_seen}
use Rattle.hf_extent.proofs.ItemLaws.{are_at, none_before, loc_taken}
use Rattle.hf_extent.proofs.items.items.Goals as goal

pub add_entry-requires-clause-known : goal.add_entry-requires-clause-known
add_entry-requires-clause-known c = are_at c.args.ids.now _ (take c.loop-loc.loc-index c.args.locs.now) [] (ap items_seen c.deref_mut.ensures.value ∙ c.loop-loc.invariant)

pub loop-loc-preserved : goal.loop-loc-preserved
loop-loc-preserved c =
    let none : loc_of c.loc-item.result.id (take c.loop-loc.loc-index c.args.locs.now) ≡ None =
    none_before c.args.locs.now c.loop-loc.loc-index c.loc-item.result c.requires.distinct c.loop-loc-test.true c.loc-item.is in
    let before : items_seen c.deref_mut.result.now ≡ located_items c.args.ids.now (take c.loop-loc.loc-index c.args.locs.now) [] =
    ap items_seen c.deref_mut.ensures.value ∙ c.loop-loc.invariant in
    let taken = loc_taken c.args.ids.now c.add_entry.new.items c.args.locs.now c.loop-loc.loc-index c.loc-item.result (c.add_entry.ensures (take c.loop-loc.loc-index c.args.locs.now) [] before none) c.loop-loc-test.true c.loc-item.is in
    ap items_seen (with_items_is c.loop-loc.items c.add_entry.new.items (omega (arith, c.add_entry.auto.items, ap length c.deref_mut.ensures.value, c.loop-loc.items.ok.0))) ∙ taken

pub add_link-requires-clause-known : goal.add_link-requires-clause-known
add_link-requires-clause-known c = are_at c.args.ids.now _ c.args.locs.now (take c.loop-link.link-index c.args.links.now) (ap items_seen c.deref_mut-in-loop-link.ensures.value ∙ c.loop-link.invariant)

pub loop-link-preserved : goal.loop-link-preserved
loop-link-preserved c =
    let ids = c.args.ids.now in
    let locs = c.args.locs.now in
    let links = c.args.links.now in
    let i = c.loop-link.link-index in
    let before : items_seen c.deref_mut-in-loop-link.result.now ≡ located_items ids locs (take i links) =
    ap items_seen c.deref_mut-in-loop-link.ensures.value ∙ c.loop-link.invariant in
    let next : take i links ++ c.link-item.result ∷ [] ≡ take (i + 1) links =
    ap (λ x. take i links ++ x ∷ []) c.link-item.is ∙ sym (take_more links i c.link-item.result c.loop-link-test.true) in
    ap items_seen (with_items_is c.loop-link.items c.add_link.new.items (omega (arith, c.add_link.auto.items, ap length c.deref_mut-in-loop-link.ensures.value, c.loop-link.items.ok.0)))
    ∙ (c.in_ok-add_link.ensures locs (take i links) before ∙ ap (located_items ids locs) next)

pub returns-clause-at : goal.returns-clause-at
returns-clause-at c = are_at c.args.ids.now (items_seen c.loop-link.items.items) c.args.locs.now (take c.loop-link.link-index c.args.links.now) c.loop-link.invariant
