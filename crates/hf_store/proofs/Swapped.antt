-- What changing an item in the code's list makes of the store and of its counts.
use Rattle.std.proofs.Common.{◌≡◌, ℕ, zero, suc, ◌+◌, ◌<◌, ◌≤◌, List, [], ◌∷◌, length, map, get_or, set, sym, ap, ◌∙◌, subst, arith, Some}
use Rattle.std.specs.Prelude.{slice_get}
use Rattle.std.specs.List.{AllByRecursion, flat_map}
use Rattle.std.proofs.lemmas.List.Elements.{All-from_recursion}
use Rattle.hf_base.specs.declared.limits.TheConstants as limits
use Rattle.std.proofs.lemmas.List.{length-map, length-set, get_or-set_same, map-set}
use Rattle.hf_store.specs.Capped.{capped, capped_counts}
use Rattle.hf_store.specs.Changes.{changed_at}
use Rattle.hf_store.specs.Counts.{Counts, plus, counts_of_item, counts_of, with_items}
use Rattle.hf_store.specs.Kept.{IsKept}
use Rattle.hf_store.specs.Referred.{HasAll, all_targets}
use Rattle.hf_store.specs.Seen.{item_of, items_of, store_of}
use Rattle.hf_store.specs.Store.{Prop, Held, Item, ItemStore}
use Rattle.hf_store.specs.Table.{props_of}
use Rattle.hf_store.specs.Valid.{IsGoodItem, Valid}
use Rattle.hf_store.specs.declared.item.Item.{Item as CodeItem}
use Rattle.hf_store.specs.declared.store.Store.TheInside.{Inside}
use Rattle.hf_table.specs.Uses.{Use, Trades, Tallies, IsCount, HasRoom}
use Rattle.hf_table.specs.Table.{places_of, table, size_sum}
use Rattle.hf_table.proofs.Rooms.{limits_leave_room}
use Rattle.hf_table.proofs.Stores.{tallies-set, among-set}
use Rattle.hf_store.proofs.Counted.{item_changes, plus-swap}
use Rattle.hf_store.proofs.Few.{few_capped, light_props, plus-cancel}
use Rattle.hf_store.proofs.FewCounts.{counts_few}
use Rattle.hf_store.proofs.Mapped.{here_at}
use Rattle.hf_store.proofs.Uses.{all-mapped}
use Rattle.hf_store.proofs.Removed.{taken_here, taken_exact}
use Rattle.hf_store.proofs.Spots.{at_or, get_map, holds_here, within_at, some_is}
use Rattle.hf_store.proofs.Targets.{targets-set}

pub changed_is : {A : Type 0} (f : A → A) (xs : List A) (k : ℕ) (x : A) → slice_get xs k ≡ Some x → set xs k (f x) ≡ changed_at f k xs
changed_is f [] k x here = absurd cc
changed_is f (y ∷ ys) zero x here = ap (λ z. f z ∷ ys) (sym (some_is here))
changed_is f (y ∷ ys) (suc k) x here = ap (λ zs. y ∷ zs) (changed_is f ys k x here)

pub plus-right : (a b : Counts) → capped_counts (plus a (capped_counts b)) ≡ capped_counts (plus a b)
plus-right a b = λ j. record {
  items = right a.items b.items j;
  located = right a.located b.located j;
  wide = right a.wide b.wide j;
  strings = right a.strings b.strings j;
  links = right a.links b.links j;
  targets = right a.targets b.targets j;
  holders = right a.holders b.holders j;
  picks = right a.picks b.picks j;
  idat = right a.idat b.idat j;
  mdat = right a.mdat b.mdat j;
  groups = right a.groups b.groups j;
  entities = right a.entities b.entities j;
  tails = right a.tails b.tails j;
}
  where
    right : (m n : ℕ) → capped (m + capped n) ≡ capped (m + n)
    right m n = omega arith

pub short_all : (all is : List Item) → AllByRecursion (IsGoodItem all) is → AllByRecursion (λ (ps : List Prop). length ps ≤ limits.PROPS) (map props_of is)
short_all all [] good = tt
short_all all (i ∷ is) good = (omega (arith, good.0.props, length-map i.props (λ (h : Held). h.prop)), short_all all is good.1)

-- a store that is the stated one, is valid, and has these uses and counts
pub record IsSwapped (now stated : ItemStore) (us : List Use) (counts : Counts) : Type 0 where
  pub out : now ≡ stated
  pub valid : Valid now
  pub tallies : Tallies us (flat_map props_of now.items)
  pub counted : counts ≡ counts_of now

module _ (inside : Inside) (s : ItemStore) (view : store_of inside ≡ s) (kept : IsKept inside) (k : ℕ) (place : k < length s.items) (item : CodeItem) (value : item ≡ get_or inside.items.items k item) where
  here : slice_get (items_of inside.items.items) k ≡ Some (item_of item)
  here = taken_here inside s view kept k place item value

  -- the code's list with another item there is the stated one
  pub changed_items : (f : Item → Item) (new : CodeItem) → item_of new ≡ f (item_of item) → items_of (set inside.items.items k new) ≡ changed_at f k (items_of inside.items.items)
  changed_items f new is = map-set item_of inside.items.items k new ∙ ap (set (items_of inside.items.items) k) is ∙ changed_is f (items_of inside.items.items) k (item_of item) here

  pub changed_tallies : (new : CodeItem) (us : List Use) → Trades inside.uses (props_of (item_of item)) (props_of (item_of new)) us → Tallies us (flat_map props_of (items_of (set inside.items.items k new)))
  changed_tallies new us trade =
      subst (λ is. Tallies us (flat_map props_of is)) (sym (map-set item_of inside.items.items k new))
      (tallies-set props_of inside.uses (items_of inside.items.items) kept.tallies k (item_of item) (within_at (items_of inside.items.items) k (item_of item) here) (sym (at_or (items_of inside.items.items) k (item_of item) (item_of item) here)) (item_of new) us trade)

  -- the ids that references lead to are known where the other one has the same references
  pub changed_targets : (new : CodeItem) → new.refs ≡ item.refs → HasAll inside.referred (all_targets (items_of (set inside.items.items k new)))
  changed_targets new same =
      let is = items_of inside.items.items in
      let told = ap all_targets (map-set item_of inside.items.items k new) ∙ targets-set is k (item_of item) (item_of new) here same in
      subst (HasAll inside.referred) (sym told) kept.referred

  -- its counts give way to those of the other one
  pub changed_counts : (new : CodeItem) → Valid (with_items (store_of inside) (items_of (set inside.items.items k new))) → (left part more all : Counts) → part ≡ capped_counts (counts_of_item (item_of item)) → plus left part ≡ inside.counts
      → more ≡ capped_counts (counts_of_item (item_of new)) → all ≡ capped_counts (plus left more) → all ≡ counts_of (with_items (store_of inside) (items_of (set inside.items.items k new)))
  changed_counts new valid left part more all is sum e f =
      let t = store_of inside in
      let x = counts_of_item (item_of item) in
      let y = counts_of_item (item_of new) in
      let now = with_items t (items_of (set inside.items.items k new)) in
      let exact : part ≡ x = taken_exact inside s view kept k place item value part is in
      let law : plus (counts_of now) x ≡ plus (counts_of t) y = ap (λ js. plus (counts_of (with_items t js)) x) (map-set item_of inside.items.items k new) ∙ item_changes t k (item_of item) (item_of new) here in
      let whole : plus left x ≡ counts_of t = ap (plus left) (sym exact) ∙ sum ∙ kept.counted in
      let done : plus left y ≡ counts_of now = plus-cancel (plus left y) (counts_of now) x (plus-swap left y x ∙ ap (λ c. plus c y) whole ∙ sym law) in
      f ∙ ap (λ c. capped_counts (plus left c)) e ∙ plus-right left y ∙ ap capped_counts done ∙ few_capped (counts_of now) (counts_few now valid)

  -- and so the store that has it is kept, where that is valid
  pub swapped : (f : Item → Item) (new : CodeItem) → item_of new ≡ f (item_of item) → Valid (record s { items = changed_at f k s.items })
      → (us : List Use) → Trades inside.uses (props_of (item_of item)) (props_of (item_of new)) us → (left part more all : Counts) → part ≡ capped_counts (counts_of_item (item_of item)) → plus left part ≡ inside.counts
      → more ≡ capped_counts (counts_of_item (item_of new)) → all ≡ capped_counts (plus left more) → IsSwapped (record (store_of inside) { items = items_of (set inside.items.items k new) }) (record s { items = changed_at f k s.items }) us all
  swapped f new is valid us trade left part more all e sum g h =
      let made : List Item → ItemStore = λ is. record (store_of inside) { items = is } in
      let out : made (items_of (set inside.items.items k new)) ≡ record s { items = changed_at f k s.items } =
      ap made (changed_items f new is) ∙ ap (λ (t : ItemStore). record t { items = changed_at f k t.items }) view in
      let now_valid = subst Valid (sym out) valid in
      record { out = out; valid = now_valid; tallies = changed_tallies new us trade; counted = changed_counts new now_valid left part more all e sum g h }

  -- nothing changes where both count alike
  pub same_counts : (new : CodeItem) → counts_of_item (item_of new) ≡ counts_of_item (item_of item) → inside.counts ≡ counts_of (with_items (store_of inside) (items_of (set inside.items.items k new)))
  same_counts new same =
      let t = store_of inside in
      let x = counts_of_item (item_of item) in
      let now = with_items t (items_of (set inside.items.items k new)) in
      let law : plus (counts_of now) x ≡ plus (counts_of t) x = ap (λ js. plus (counts_of (with_items t js)) x) (map-set item_of inside.items.items k new) ∙ item_changes t k (item_of item) (item_of new) here ∙ ap (plus (counts_of t)) same in
      kept.counted ∙ sym (plus-cancel (counts_of now) (counts_of t) x law)

  there : k < length inside.items.items
  there = omega (arith, within_at (items_of inside.items.items) k (item_of item) here, length-map inside.items.items item_of)

  -- there is room for the properties of the other one
  pub changed_room : (new : CodeItem) → Valid (with_items (store_of inside) (items_of (set inside.items.items k new))) → IsCount inside.uses → HasRoom inside.uses (props_of (item_of new))
  changed_room new valid count =
      let is = items_of inside.items.items in
      let js = items_of (set inside.items.items k new) in
      let at : slice_get js k ≡ Some (item_of new) = get_map item_of (set inside.items.items k new) k new (here_at (set inside.items.items k new) k new (omega (arith, there, length-set inside.items.items k new)) (sym (get_or-set_same inside.items.items k new new there))) in
      let good : IsGoodItem js (item_of new) = holds_here (IsGoodItem js) js k (item_of new) valid.items at in
      let among : (q : Prop) → places_of q (props_of (item_of new)) ≤ places_of q (flat_map props_of js) = λ q.
      (let inner = among-set props_of inside.uses is kept.tallies k (item_of item) (within_at is k (item_of item) here) (sym (at_or is k (item_of item) (item_of item) here)) (item_of new) q in
      omega (arith, inner, ap (λ xs. places_of q (flat_map props_of xs)) (map-set item_of inside.items.items k new))) in
      limits_leave_room inside.uses (map props_of is) (props_of (item_of new)) (flat_map props_of js) count (subst (Tallies inside.uses) (sym (all-mapped is)) kept.tallies)
      (omega (arith, kept.valid.count, length-map is props_of)) (All-from_recursion (λ (ps : List Prop). length ps ≤ limits.PROPS) (map props_of is) (short_all is is kept.valid.items))
      (subst (λ ps. size_sum (table ps) ≤ limits.META) (sym (all-mapped is)) (light_props (store_of inside) kept.valid))
      (omega (arith, good.props, length-map new.props (λ (h : Held). h.prop))) among (light_props (with_items (store_of inside) js) valid)
