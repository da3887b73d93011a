use Rattle.std.proofs.Common.{◌≡◌, set, not, refl, sym, ap, subst, rules}
use Rattle.std.proofs.lemmas.Fn.{filter_same}
use Rattle.hf_prop.specs.declared.held.Held.{Held}
use Rattle.hf_store.specs.Changes.{lacking_optional, changed_at}
use Rattle.hf_store.specs.Counts.{HasCounts}
use Rattle.hf_store.specs.Seen.{item_of, items_of, store_of}
use Rattle.hf_store.specs.declared.item.Item.{Item as CodeItem}
use Rattle.hf_table.specs.Held.{props_in, is_optional_of, optional_of, without_optional}
use Rattle.hf_table.specs.Uses.{Gains, Holds, Trades}
use Rattle.hf_store.proofs.Parted.{holds-parted, trades-parted}
use Rattle.hf_store.proofs.Removed.{taken_holds, taken_part}
use Rattle.hf_store.proofs.Swapped.{IsSwapped, changed_targets, swapped}
use Rattle.hf_store.proofs.store.Store.drop_optional.Goals as goal

pub take_optional-requires : goal.take_optional-requires
take_optional-requires c =
    let item = c.index_mut-item.result.now in
    subst (λ hs. Holds c.self.inside.uses (optional_of c.args.kind hs)) (sym c.as_slice.ensures)
    (holds-parted c.self.inside.uses (is_optional_of c.args.kind) item.props
    (taken_holds c.self.inside c.args.self.now c.self.view_is c.self.invariant c.args.i c.requires.place item c.index_mut-item.ensures.value))

pub minus-left-requires : goal.minus-left-requires
minus-left-requires c =
    subst (HasCounts c.self.inside.counts) (sym c.count_item.ensures)
    (taken_part c.self.inside c.args.self.now c.self.view_is c.self.invariant c.args.i c.requires.place c.index_mut-item.result.now
    c.index_mut-item.ensures.value)

abbrev left_item : goal.After-self-2-1 → CodeItem
left_item c = record c.index_mut-item.result.now { props = c.retain.new.self }

dropped : (c : goal.After-self-2-1)
    → IsSwapped (record (store_of c.self.inside) { items = items_of (set c.self.inside.items.items c.args.i (left_item c)) })
    (record c.args.self.now { items = changed_at (lacking_optional c.args.kind) c.args.i c.args.self.now.items }) c.take_optional.new.self
    c.plus-self-inside.result
dropped c =
    let item = c.index_mut-item.result.now in
    let us = c.self.inside.uses in
    let retained : c.retain.new.self ≡ without_optional c.args.kind item.props =
    filter_same _ (λ (h : Held). not (is_optional_of c.args.kind h)) _ (λ h b f k. search rules) _ _ c.retain.ensures in
    let down : Gains c.take_optional.new.self (optional_of c.args.kind item.props) us =
    subst (λ hs. Gains c.take_optional.new.self (optional_of c.args.kind hs) us) c.as_slice.ensures c.take_optional.ensures in
    let trade : Trades us (props_in item.props) (props_in c.retain.new.self) c.take_optional.new.self =
    subst (λ hs. Trades us (props_in item.props) (props_in hs) c.take_optional.new.self) (sym retained)
    (trades-parted c.self.inside.uses (is_optional_of c.args.kind) item.props c.take_optional.new.self down)
    in
    swapped c.self.inside c.args.self.now c.self.view_is c.self.invariant c.args.i c.requires.place item c.index_mut-item.ensures.value
    (lacking_optional c.args.kind) (left_item c)
    (ap (λ hs. record (item_of item) { props = hs }) retained) c.requires.valid c.take_optional.new.self trade c.minus-left.result c.count_item.result
    c.count_item-2.result c.plus-self-inside.result
    c.count_item.ensures c.minus-left.ensures c.count_item-2.ensures c.plus-self-inside.ensures

pub invariant_of-self : goal.invariant_of-self
invariant_of-self c =
    let d = dropped c in
    let item = c.index_mut-item.result.now in
    record {
      valid = d.valid;
      tallies = d.tallies;
      counted = d.counted;
      referred =
          changed_targets c.self.inside c.args.self.now c.self.view_is c.self.invariant c.args.i c.requires.place item c.index_mut-item.ensures.value
          (left_item c) refl;
    }

pub returns : goal.returns
returns c = (dropped c).out
