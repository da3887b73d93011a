use Rattle.std.proofs.Common.{◌≡◌, List, set, refl, sym, ap, subst, ◌∙◌}
use Rattle.std.proofs.Math.Seq.{map-set_same}
use Rattle.hf_prop.specs.declared.held.Held.{Held}
use Rattle.hf_store.specs.Changes.{holding, with_props}
use Rattle.hf_store.specs.Counts.{HasCounts}
use Rattle.hf_store.specs.Seen.{item_of, items_of, store_of}
use Rattle.hf_store.specs.Store.{Item, ItemStore}
use Rattle.hf_store.specs.Valid.{Valid}
use Rattle.hf_store.specs.declared.item.Item.{Item as CodeItem}
use Rattle.hf_table.specs.Held.{props_in}
use Rattle.hf_table.specs.Uses.{HasRoom, Holds, Trades}
use Rattle.hf_store.proofs.Pushed.{still_kept}
use Rattle.hf_store.proofs.Removed.{taken_holds, taken_part}
use Rattle.hf_store.proofs.Swapped.{IsSwapped, changed_items, changed_room, changed_targets, swapped}
use Rattle.hf_store.proofs.store.Store.set_props.Goals as goal

abbrev new_item : CodeItem → List Held → CodeItem
new_item item held = record item { props = held }

pub replace-requires-clause-held : goal.replace-requires-clause-held
replace-requires-clause-held c =
    subst (λ hs. Holds c.self.inside.uses (props_in hs)) (sym c.as_slice.ensures)
    (taken_holds c.self.inside c.args.self.now c.self.view_is c.self.invariant c.args.i c.requires.place c.index_mut-item.result.now
    c.index_mut-item.ensures.value)

pub replace-requires-clause-room : goal.replace-requires-clause-room
replace-requires-clause-room c =
    let item = c.index_mut-item.result.now in
    let new = new_item item c.args.props in
    let made : List Item → ItemStore = λ is. record (store_of c.self.inside) { items = is } in
    let out : made (items_of (set c.self.inside.items.items c.args.i new)) ≡ with_props c.args.i c.args.props c.args.self.now =
    ap made (changed_items c.self.inside c.args.self.now c.self.view_is c.self.invariant c.args.i c.requires.place item c.index_mut-item.ensures.value
    (holding c.args.props) new refl) ∙ ap (with_props c.args.i c.args.props) c.self.view_is
    in
    subst (λ hs. HasRoom c.self.inside.uses (props_in hs)) (sym (c.deref.ensures.value ∙ c.into_vec-props.ensures))
    (changed_room c.self.inside c.args.self.now c.self.view_is c.self.invariant c.args.i c.requires.place item c.index_mut-item.ensures.value new
    (subst Valid (sym out) c.requires.valid) c.bytes-bytes.ensures.sound)

pub minus-left-requires : goal.minus-left-requires
minus-left-requires c =
    subst (HasCounts c.self.inside.counts) (sym c.count_item.ensures)
    (taken_part c.self.inside c.args.self.now c.self.view_is c.self.invariant c.args.i c.requires.place c.index_mut-item.result.now
    c.index_mut-item.ensures.value)

given : (c : goal.After-drop-old) → c.replace-2.new.dest ≡ c.args.props
given c = c.replace-2.ensures.after ∙ c.from_vec.ensures ∙ c.into_vec-props.ensures

changed : (c : goal.After-drop-old)
    → IsSwapped (record (store_of c.self.inside)
    { items = items_of (set c.self.inside.items.items c.args.i (new_item c.index_mut-item.result.now c.replace-2.new.dest)) })
    (with_props c.args.i c.args.props c.args.self.now) c.replace.new.self c.plus-self-inside.result
changed c =
    let item = c.index_mut-item.result.now in
    let new = new_item item c.replace-2.new.dest in
    let us = c.self.inside.uses in
    let trade : Trades us (props_in item.props) (props_in c.replace-2.new.dest) c.replace.new.self =
    subst (λ hs. Trades us (props_in item.props) (props_in hs) c.replace.new.self)
    (c.deref.ensures.value ∙ sym c.from_vec.ensures ∙ sym c.replace-2.ensures.after)
    (subst (λ hs. Trades us (props_in hs) (props_in c.deref.result.now) c.replace.new.self) c.as_slice.ensures c.in_ok-replace.ensures.trades)
    in
    swapped c.self.inside c.args.self.now c.self.view_is c.self.invariant c.args.i c.requires.place item c.index_mut-item.ensures.value
    (holding c.args.props) new
    (ap (λ hs. record (item_of item) { props = hs }) (given c)) c.requires.valid c.replace.new.self trade c.minus-left.result c.count_item.result
    c.count_item-2.result c.plus-self-inside.result
    c.count_item.ensures c.minus-left.ensures c.count_item-2.ensures c.plus-self-inside.ensures

pub invariant_of-self-2 : goal.invariant_of-self-2
invariant_of-self-2 c =
    let d = changed c in
    let item = c.index_mut-item.result.now in
    record {
      valid = d.valid;
      tallies = d.tallies;
      counted = d.counted;
      referred =
          changed_targets c.self.inside c.args.self.now c.self.view_is c.self.invariant c.args.i c.requires.place item c.index_mut-item.ensures.value
          (new_item item c.replace-2.new.dest) refl;
    }

pub returns-clause-set : goal.returns-clause-set
returns-clause-set c = (changed c).out

-- after `NoMemory` the store is as before
pub invariant_of-self : goal.invariant_of-self
invariant_of-self c =
    let item = c.index_mut-item.result.now in
    let made : List Item → ItemStore = λ is. record (store_of c.self.inside) { items = is } in
    let same = map-set_same item_of c.self.inside.items.items c.args.i item item (ap item_of c.index_mut-item.ensures.value) in
    still_kept c.self.inside _ (ap made same) c.in_err-replace.ensures.same refl (λ id h. h) c.self.invariant
