use Rattle.std.proofs.Common.{◌≡◌, List, set, refl, sym, ap, subst, ◌∙◌}
use Rattle.hf_store.specs.Changes.{hide, with_hidden}
use Rattle.hf_store.specs.Seen.{items_of, store_of}
use Rattle.hf_store.specs.Store.{Item, ItemStore}
use Rattle.hf_store.specs.Valid.{Valid}
use Rattle.hf_store.specs.declared.item.Item.{Item as CodeItem}
use Rattle.hf_store.proofs.Swapped.{changed_items, changed_tallies, changed_targets, same_counts}
use Rattle.hf_store.proofs.store.Store.set_hidden.Goals as goal

abbrev hidden_item : goal.After-self-1 → CodeItem
hidden_item c = record c.index_mut-item.result.now { hidden = c.args.hidden }

out : (c : goal.After-self-1) → record (store_of c.self.inside) { items = items_of (set c.self.inside.items.items c.args.i (hidden_item c)) } ≡ with_hidden c.args.i c.args.hidden c.args.self.now
out c =
    let made : List Item → ItemStore = λ is. record (store_of c.self.inside) { items = is } in
    ap made (changed_items c.self.inside c.args.self.now c.self.view_is c.self.invariant c.args.i c.requires.place c.index_mut-item.result.now c.index_mut-item.ensures.value (hide c.args.hidden) (hidden_item c) refl)
    ∙ ap (with_hidden c.args.i c.args.hidden) c.self.view_is

pub invariant_of-self : goal.invariant_of-self
invariant_of-self c = record {
  valid = subst Valid (sym (out c)) c.requires.valid;
  tallies = changed_tallies c.self.inside c.args.self.now c.self.view_is c.self.invariant c.args.i c.requires.place c.index_mut-item.result.now c.index_mut-item.ensures.value (hidden_item c) c.self.inside.uses (record { each = λ q. refl });
  counted = same_counts c.self.inside c.args.self.now c.self.view_is c.self.invariant c.args.i c.requires.place c.index_mut-item.result.now c.index_mut-item.ensures.value (hidden_item c) refl;
  referred =
      changed_targets c.self.inside c.args.self.now c.self.view_is c.self.invariant c.args.i c.requires.place c.index_mut-item.result.now
      c.index_mut-item.ensures.value (hidden_item c) refl;
}

pub returns : goal.returns
returns c = out c
