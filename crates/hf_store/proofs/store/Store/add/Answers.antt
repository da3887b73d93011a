use Rattle.std.proofs.Common.{◌≡◌, List, [], ◌∷◌, ◌++◌, refl, sym, ap, subst, ◌∙◌, Ok, Err}
use Rattle.std.specs.Prelude.{OnErr, OnOk}
use Rattle.std.specs.List.{flat_map}
use Rattle.std.proofs.lemmas.List.{map-append}
use Rattle.hf_store.specs.Capped.{capped_counts}
use Rattle.hf_store.specs.Changes.{added}
use Rattle.hf_store.specs.Counts.{counts_of, counts_of_item, plus}
use Rattle.hf_store.specs.Kept.{IsKept}
use Rattle.hf_store.specs.Referred.{HasAll, all_targets, targets_by}
use Rattle.hf_store.specs.Store.{Item as StatedItem, ItemStore}
use Rattle.hf_store.specs.Table.{props_of}
use Rattle.hf_store.specs.Seen.{item_of, items_of, store_of}
use Rattle.hf_store.specs.Valid.{Valid}
use Rattle.hf_store.specs.declared.item.Item.{Item as CodeItem}
use Rattle.hf_store.specs.declared.store.Store.TheInside.{Inside}
use Rattle.hf_table.specs.Held.{props_in}
use Rattle.hf_table.specs.Uses.{Gains, Tallies}
use Rattle.hf_table.proofs.Stores.{tallies-pushed}
use Rattle.hf_store.proofs.Pushed.{pushed_room, pushed_counts, still_kept}
use Rattle.hf_store.proofs.Targets.{targets_pushed}
use Rattle.hf_store.proofs.store.Store.add.Goals as goal

abbrev now : goal.After-add_item → Inside
now c = record c.self.inside { items = c.add_item.new.items; uses = c.add_item.new.uses; counts = c.add_item.new.counts; referred = c.add_item.new.referred }

pub add_item-requires : goal.add_item-requires
add_item-requires c =
    let item = c.args.item in
    let valid : Valid (added (item_of item) (store_of c.self.inside)) = subst (λ s. Valid (added (item_of item) s)) (sym c.self.view_is) c.requires in
    pushed_room c.self.inside c.self.invariant (item_of item) valid c.bytes-bytes.ensures.sound

-- the item is behind the others
with_it : (c : goal.After-add_item) → c.add_item.new.items.items ≡ c.self.inside.items.items ++ c.args.item ∷ []
    → HasAll c.add_item.new.referred (targets_by c.args.item.refs) → Gains c.self.inside.uses (props_in c.args.item.props) c.add_item.new.uses
    → c.add_item.new.counts ≡ capped_counts (plus c.self.inside.counts (capped_counts (counts_of_item (item_of c.args.item))))
    → IsKept (now c)
with_it c pushed known gains counted =
    let is = c.self.inside.items.items in
    let x = item_of c.args.item in
    let s = store_of c.self.inside in
    let made : List StatedItem → ItemStore = λ js. record s { items = js } in
    let items : items_of c.add_item.new.items.items ≡ items_of is ++ x ∷ [] = ap items_of pushed ∙ map-append item_of is (c.args.item ∷ []) in
    let valid : Valid (added x s) = subst (λ t. Valid (added x t)) (sym c.self.view_is) c.requires in
    record {
      valid = subst Valid (sym (ap made items)) valid;
      tallies =
          subst (λ js. Tallies c.add_item.new.uses (flat_map props_of js)) (sym items)
          (tallies-pushed props_of c.self.inside.uses (items_of is) c.self.invariant.tallies x c.add_item.new.uses gains);
      counted = pushed_counts c.self.inside c.self.invariant x valid _ c.add_item.new.counts refl counted ∙ ap counts_of (sym (ap made items));
      referred =
          let new = c.add_item.new.referred in
          subst (λ js. HasAll new (all_targets js)) (sym items)
          (targets_pushed new (items_of is) x (λ id h. c.add_item.ensures.kept id (c.self.invariant.referred id h)) known);
    }

-- after `NoMemory` the store is as before; more ids may be known
without_it : (c : goal.After-add_item) → c.add_item.new.items.items ≡ c.self.inside.items.items → Gains c.self.inside.uses [] c.add_item.new.uses
    → c.add_item.new.counts ≡ c.self.inside.counts → IsKept (now c)
without_it c unchanged same uncounted =
    let made : List CodeItem → ItemStore = λ is. record (store_of c.self.inside) { items = items_of is } in
    still_kept c.self.inside (now c) (ap made unchanged) same uncounted c.add_item.ensures.kept c.self.invariant

pub invariant_of-self : goal.invariant_of-self
invariant_of-self c =
    let e = c.add_item.ensures in
    (elim c.add_item.result as (λ r.
    OnOk r (c.add_item.new.items.items ≡ c.self.inside.items.items ++ c.args.item ∷ [])
    → OnOk r (HasAll c.add_item.new.referred (targets_by c.args.item.refs))
    → OnOk r (Gains c.self.inside.uses (props_in c.args.item.props) c.add_item.new.uses)
    → OnOk r (c.add_item.new.counts ≡ capped_counts (plus c.self.inside.counts (capped_counts (counts_of_item (item_of c.args.item)))))
    → OnErr r (c.add_item.new.items.items ≡ c.self.inside.items.items) → OnErr r (Gains c.self.inside.uses [] c.add_item.new.uses)
    → OnErr r (c.add_item.new.counts ≡ c.self.inside.counts) → IsKept (now c)) [
      | Ok _ ↦ λ pushed known gains counted _ _ _. with_it c pushed known gains counted
      | Err _ ↦ λ _ _ _ _ unchanged same uncounted. without_it c unchanged same uncounted
    ]) e.items e.known e.gains e.counts e.unchanged e.same e.uncounted

pub returns-clause-added : goal.returns-clause-added
returns-clause-added c =
    let is = c.self.inside.items.items in
    let x = item_of c.args.item in
    let s = store_of c.self.inside in
    let made : List StatedItem → ItemStore = λ js. record s { items = js } in
    (elim c.add_item.result as (λ r.
    OnOk r (c.add_item.new.items.items ≡ is ++ c.args.item ∷ []) → OnOk r (store_of (now c) ≡ added x c.args.self.now)) [
      | Ok _ ↦ λ pushed. ap made (ap items_of pushed ∙ map-append item_of is (c.args.item ∷ [])) ∙ ap (added x) c.self.view_is
      | Err _ ↦ λ _. tt
    ]) c.add_item.ensures.items
