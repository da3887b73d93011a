-- A valid store stays valid where items have other marks and properties, as far as these are good and the limits are kept.
use Rattle.std.proofs.Common.{◌≡◌, ◌<◌, ◌≤◌, ◌||◌, ℕ, Bool, List, [], ◌∷◌, ◌++◌, length, map, refl, sym, ap, ◌∙◌, subst, arith}
use Rattle.std.specs.List.{AllByRecursion, flat_map, list_any, sum_by}
use Rattle.std.proofs.lemmas.List.{length-map}
use Rattle.std.proofs.lemmas.List.Sums.{sum_by-cons}
use Rattle.hf_base.specs.declared.limits.TheConstants as limits
use Rattle.hf_prop.specs.declared.held.Held.{Held}
use Rattle.hf_store.specs.Derived.{inputs, input_pairs, IsEndless}
use Rattle.hf_store.specs.Layout.{is_wide}
use Rattle.hf_store.specs.Lists.{IsIn, RisesFrom}
use Rattle.hf_store.specs.Store.{Item, ItemStore, ids_of}
use Rattle.hf_store.specs.Table.{table_of}
use Rattle.hf_store.specs.Valid.{body_sum, IsGoodItem, meta_len, Valid}
use Rattle.hf_order.proofs.Members.{all_from, from_map, in_all}
use Rattle.hf_edit.proofs.Goods.{AreGoodProps, good_changed, all_good_groups}

-- the same item but for its mark and its properties
pub record IsAlike (i j : Item) : Type 0 where
  pub same : j ≡ record i { hidden = j.hidden; props = j.props }

module _ (f : Item → Item) (alike : (i : Item) → IsAlike i (f i)) where
  -- what says nothing of marks and properties stays
  keeps : {B : Type 0} (g : Item → B) → ((i : Item) (hidden : Bool) (held : List Held) → g (record i { hidden = hidden; props = held }) ≡ g i)
      → (i : Item) → g (f i) ≡ g i
  keeps g same i = ap g (alike i).same ∙ same i (f i).hidden (f i).props

  map-alike : {B : Type 0} (g : Item → B) (is : List Item) → ((i : Item) → g (f i) ≡ g i) → map g (map f is) ≡ map g is
  map-alike g [] same = refl
  map-alike g (i ∷ is) same = ap (λ y. y ∷ map g (map f is)) (same i) ∙ ap (λ ys. g i ∷ ys) (map-alike g is same)

  flat_map-alike : {B : Type 0} (g : Item → List B) (is : List Item) → ((i : Item) → g (f i) ≡ g i) → flat_map g (map f is) ≡ flat_map g is
  flat_map-alike g [] same = refl
  flat_map-alike g (i ∷ is) same = ap (λ ys. ys ++ flat_map g (map f is)) (same i) ∙ ap (λ ys. g i ++ ys) (flat_map-alike g is same)

  any-alike : (g : Item → Bool) (is : List Item) → ((i : Item) → g (f i) ≡ g i) → list_any g (map f is) ≡ list_any g is
  any-alike g [] same = refl
  any-alike g (i ∷ is) same = ap (λ b. b || list_any g (map f is)) (same i) ∙ ap (λ b. g i || b) (any-alike g is same)

  pub sum-alike : (g : Item → ℕ) (is : List Item) → ((i : Item) → g (f i) ≤ g i) → sum_by g (map f is) ≤ sum_by g is
  sum-alike g [] less = omega arith
  sum-alike g (i ∷ is) less = omega (arith, sum_by-cons g (f i) (map f is), sum_by-cons g i is, less i, sum-alike g is less)

  pub sum-kept : (g : Item → ℕ) (is : List Item) → ((i : Item) (hidden : Bool) (held : List Held) → g (record i { hidden = hidden; props = held }) ≡ g i)
      → sum_by g (map f is) ≤ sum_by g is
  sum-kept g is same = sum-alike g is (λ i. omega (arith, keeps g same i))

  ids-alike : (is : List Item) → ids_of (map f is) ≡ ids_of is
  ids-alike is = map-alike (λ (i : Item). i.id) is (keeps (λ (i : Item). i.id) (λ i hidden held. refl))

  pairs-alike : (is : List Item) → input_pairs (map f is) ≡ input_pairs is
  pairs-alike is =
      let pairs : Item → List (ℕ × ℕ) = λ i. map (λ to. (i.id, to)) (inputs i.refs) in
      flat_map-alike pairs is (keeps pairs (λ i hidden held. refl))

  pub wide-alike : (is : List Item) → is_wide (map f is) ≡ is_wide is
  unfolding is_wide
  wide-alike is = any-alike _ is (keeps _ (λ i hidden held. refl))

  -- ---- the store

  module _ (s : ItemStore) (valid : Valid s) (good : (i : Item) → IsIn i s.items → AreGoodProps (f i).props) where
    more : (id : ℕ) → IsIn id (ids_of s.items) → IsIn id (ids_of (map f s.items))
    more id there = subst (IsIn id) (sym (ids-alike s.items)) there

    good_alike : (i : Item) → IsIn i s.items → IsGoodItem (map f s.items) (f i)
    good_alike i there =
        subst (IsGoodItem (map f s.items)) (sym (alike i).same)
        (good_changed s.items (map f s.items) more i (f i).hidden (f i).props (in_all (IsGoodItem s.items) s.items valid.items i there) (good i there))

    pub items_good : AllByRecursion (IsGoodItem (map f s.items)) (map f s.items)
    items_good =
        all_from (IsGoodItem (map f s.items)) (map f s.items)
        (λ j there. let from = from_map f s.items j there in subst (IsGoodItem (map f s.items)) from.2 (good_alike from.0 from.1))

    pub valid_alike : length (table_of (record s { items = map f s.items })) ≤ limits.KINDS → meta_len (record s { items = map f s.items }) ≤ limits.META
        → Valid (record s { items = map f s.items })
    unfolding body_sum
    valid_alike kinds meta = record {
      brands = valid.brands;
      ids_rise = subst (RisesFrom ◌<◌ 0) (sym (ids-alike s.items)) valid.ids_rise;
      primary = more s.primary valid.primary;
      items = items_good;
      groups_rise = valid.groups_rise;
      groups = all_good_groups s.items (map f s.items) more s.groups valid.groups;
      ends = λ walk endless. valid.ends walk (subst (λ pairs. IsEndless pairs walk) (pairs-alike s.items) endless);
      count = omega (arith, length-map s.items f, valid.count);
      kinds = kinds;
      body = omega (arith, sum-kept (λ (i : Item). length i.bytes) s.items (λ i hidden held. refl), valid.body);
      meta = meta;
    }
