use Rattle.std.proofs.Common.{◌≡◌, length, map, sym, ap, subst, ◌∙◌, arith}
use Rattle.std.specs.List.{flat_map, remove, sum_by}
use Rattle.hf_links.specs.Grpl.{groups_of}
use Rattle.hf_store.specs.Capped.{capped_counts}
use Rattle.hf_store.specs.Changes.{id_at, is_other, cut_item, removed}
use Rattle.hf_store.specs.Counts.{Counts, HasCounts, counts_of_items, counts_of_groups, counts_of, plus, targets_of}
use Rattle.hf_store.specs.Lists.{IsIn}
use Rattle.hf_store.specs.Referred.{HasAll, HaveTargets, all_targets}
use Rattle.hf_store.specs.Seen.{item_of, items_of, store_of}
use Rattle.hf_store.specs.Store.{Item, ItemStore}
use Rattle.hf_store.specs.Table.{props_of}
use Rattle.hf_store.specs.Valid.{Valid}
use Rattle.hf_table.specs.Held.{props_in}
use Rattle.hf_table.specs.Uses.{Holds, Gains, Tallies}
use Rattle.hf_store.proofs.CountsAre.{sum-zero}
use Rattle.hf_store.proofs.Removed.{props-cut, removed_is, relinked_is, taken_here, taken_holds, taken_known, taken_targets, taken_tallies}
use Rattle.hf_store.proofs.Removed.{taken_part, taken_left, counted_anew}
use Rattle.hf_store.proofs.Spots.{map-remove}
use Rattle.hf_store.proofs.Targets.{targets_cut}
use Rattle.hf_store.proofs.store.Store.remove.Goals as goal

pub take_all-requires : goal.take_all-requires
take_all-requires c =
    subst (λ hs. Holds c.self.inside.uses (props_in hs)) (sym c.as_slice.ensures)
    (taken_holds c.self.inside c.args.self.now c.self.view_is c.self.invariant c.args.i c.requires.place c.remove-item.result c.remove-item.ensures.value)

pub minus-left-requires : goal.minus-left-requires
minus-left-requires c =
    subst (HasCounts c.self.inside.counts) (sym c.count_item.ensures)
    (taken_part c.self.inside c.args.self.now c.self.view_is c.self.invariant c.args.i c.requires.place c.remove-item.result c.remove-item.ensures.value)

pub cut_referred-links-requires-clause-known : goal.cut_referred-links-requires-clause-known
cut_referred-links-requires-clause-known c =
    let others = ap items_of c.remove-item.ensures.items ∙ map-remove item_of c.self.inside.items.items c.args.i in
    subst (λ is. HasAll c.self.inside.referred (all_targets is)) (sym others)
    (taken_known c.self.inside c.args.self.now c.self.view_is c.self.invariant c.args.i c.requires.place c.remove-item.result c.remove-item.ensures.value)

pub cut_referred-links-requires-clause-some : goal.cut_referred-links-requires-clause-some
cut_referred-links-requires-clause-some c =
    let others = ap items_of c.remove-item.ensures.items ∙ map-remove item_of c.self.inside.items.items c.args.i in
    subst HaveTargets (sym others)
    (taken_targets c.self.inside c.args.self.now c.self.view_is c.self.invariant c.args.i c.requires.place c.remove-item.result c.remove-item.ensures.value)

pub cut_referred-links-requires-clause-links : goal.cut_referred-links-requires-clause-links
cut_referred-links-requires-clause-links c =
    let left =
    taken_left c.self.inside c.args.self.now c.self.view_is c.self.invariant c.args.i c.requires.place c.remove-item.result c.remove-item.ensures.value
    c.minus-left.result c.count_item.result c.count_item.ensures c.minus-left.ensures
    in
    let others = ap items_of c.remove-item.ensures.items ∙ map-remove item_of c.self.inside.items.items c.args.i in
    omega (arith, ap (λ (k : Counts). k.links) left, sum-zero (store_of c.self.inside).groups, ap (sum_by (λ (i : Item). length i.refs)) others)

pub cut_referred-links-requires-clause-ids : goal.cut_referred-links-requires-clause-ids
cut_referred-links-requires-clause-ids c =
    let left =
    taken_left c.self.inside c.args.self.now c.self.view_is c.self.invariant c.args.i c.requires.place c.remove-item.result c.remove-item.ensures.value
    c.minus-left.result c.count_item.result c.count_item.ensures c.minus-left.ensures
    in
    let others = ap items_of c.remove-item.ensures.items ∙ map-remove item_of c.self.inside.items.items c.args.i in
    omega (arith, ap (λ (k : Counts). k.targets) left, sum-zero (store_of c.self.inside).groups, ap (sum_by (λ (i : Item). targets_of i.refs)) others)

items_left : (c : goal.After-drop-item-3) → items_of c.cut_referred-links.new.items.items ≡ map (cut_item (is_other c.remove-item.result.id)) (remove (items_of c.self.inside.items.items) c.args.i)
items_left c =
    let f = map (cut_item (is_other c.remove-item.result.id)) in
    c.cut_referred-links.ensures.items ∙ ap (λ is. f (items_of is)) c.remove-item.ensures.items ∙ ap f (map-remove item_of c.self.inside.items.items c.args.i)

out : (c : goal.After-drop-item-3) → record (store_of c.self.inside) { items = items_of c.cut_referred-links.new.items.items; groups = groups_of c.cut_groups.new.groups.items } ≡ removed (id_at c.args.i c.args.self.now.items) c.args.self.now
out c =
    removed_is (store_of c.self.inside) c.args.i (item_of c.remove-item.result) (items_of c.cut_referred-links.new.items.items) (groups_of c.cut_groups.new.groups.items) c.self.invariant.valid.ids_rise
    (taken_here c.self.inside c.args.self.now c.self.view_is c.self.invariant c.args.i c.requires.place c.remove-item.result c.remove-item.ensures.value)
    (items_left c) c.cut_groups.ensures
    ∙ ap (λ (s : ItemStore). removed (id_at c.args.i s.items) s) c.self.view_is

pub invariant_of-self : goal.invariant_of-self
unfolding counts_of
invariant_of-self c =
    let t : ItemStore = record (store_of c.self.inside) { items = items_of c.cut_referred-links.new.items.items; groups = groups_of c.cut_groups.new.groups.items } in
    let stays = is_other c.remove-item.result.id in
    let old = remove (items_of c.self.inside.items.items) c.args.i in
    let valid : Valid t = subst Valid (sym (out c)) c.requires.valid in
    let down : Gains c.take_all.new.self (props_of (item_of c.remove-item.result)) c.self.inside.uses = subst (λ hs. Gains c.take_all.new.self (props_in hs) c.self.inside.uses) c.as_slice.ensures c.take_all.ensures in
    let tallies = taken_tallies c.self.inside c.args.self.now c.self.view_is c.self.invariant c.args.i c.requires.place c.remove-item.result c.remove-item.ensures.value c.take_all.new.self down in
    let props : flat_map props_of t.items ≡ flat_map props_of old = ap (flat_map props_of) (items_left c) ∙ props-cut stays old in
    let left = taken_left c.self.inside c.args.self.now c.self.view_is c.self.invariant c.args.i c.requires.place c.remove-item.result c.remove-item.ensures.value c.minus-left.result c.count_item.result c.count_item.ensures c.minus-left.ensures in
    let g = c.count_groups-groups.result in
    let exact = counted_anew t valid c.cut_referred-links.result.lists c.cut_referred-links.result.targets g c.cut_referred-links.ensures.lists c.cut_referred-links.ensures.targets (c.count_groups-groups.ensures ∙ ap (λ gs. capped_counts (counts_of_groups (groups_of gs))) c.deref.ensures.value) in
    let m = c.minus-left.result in
    let anew : c.relinked-self-inside.result ≡ record m { links = c.cut_referred-links.result.lists; targets = c.cut_referred-links.result.targets; groups = (counts_of_groups t.groups).groups; entities = (counts_of_groups t.groups).entities; tails = (counts_of_groups t.groups).tails } =
    c.relinked-self-inside.ensures ∙ (λ j. record m { links = c.cut_referred-links.result.lists; targets = c.cut_referred-links.result.targets; groups = exact.groups j; entities = exact.entities j; tails = exact.tails j })
    in
    record {
      valid = valid;
      tallies = subst (Tallies c.take_all.new.self) (sym props) tallies;
      referred = λ id h.
          let led : IsIn id (all_targets (map (cut_item stays) old)) = subst (λ is. IsIn id (all_targets is)) (items_left c) h in
          taken_known c.self.inside c.args.self.now c.self.view_is c.self.invariant c.args.i c.requires.place c.remove-item.result c.remove-item.ensures.value
          id (targets_cut stays old id led);
      counted =
          anew
          ∙ relinked_is stays old (store_of c.self.inside).groups t.groups m c.cut_referred-links.result.lists c.cut_referred-links.result.targets left
          (exact.lists_are ∙ ap (sum_by (λ (i : Item). length i.refs)) (items_left c)) (exact.targets_are ∙ ap (sum_by (λ (i : Item). targets_of i.refs)) (items_left c))
          ∙ ap (λ is. plus (counts_of_items is) (counts_of_groups t.groups)) (sym (items_left c));
    }

pub returns : goal.returns
returns c = out c
