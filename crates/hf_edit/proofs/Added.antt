-- A valid store stays valid where a good item comes that is made of no other one, as far as the limits are kept.
use Rattle.std.proofs.Common.{◌≡◌, ◌<◌, ◌≤◌, ◌-◌, ◌^◌, ℕ, List, [], ◌∷◌, ◌++◌, length, map, max, fold, refl, sym, ap, ◌∙◌, subst, arith, inl, inr}
use Rattle.std.specs.List.{AllByRecursion, flat_map}
use Rattle.std.proofs.lemmas.Grind.{flat_map-append}
use Rattle.std.proofs.lemmas.List.{append-nil, map-append}
use Rattle.std.proofs.Math.Nat.{le-max_left, le-max_right, max-le}
use Rattle.hf_base.specs.declared.limits.TheConstants as limits
use Rattle.hf_order.proofs.Members.{in_front}
use Rattle.hf_store.specs.Changes.{added}
use Rattle.hf_store.specs.Derived.{inputs, input_pairs, IsEndless}
use Rattle.hf_store.specs.Lists.{IsIn, RisesFrom}
use Rattle.hf_store.specs.Store.{Group, Item, ItemStore, ids_of}
use Rattle.hf_store.specs.Table.{table_of}
use Rattle.hf_store.specs.Valid.{body_sum, IsGoodGroup, IsGoodItem, meta_len, Valid}
use Rattle.hf_edit.specs.Additions.{greatest_id}
use Rattle.hf_edit.proofs.Goods.{all_good_groups, all_good_items, good_item}
use Rattle.hf_edit.proofs.Members.{all_append}

-- ---- the greatest id

le-fold-max : (a : ℕ) (xs : List ℕ) → a ≤ fold max a xs
le-fold-max a [] = omega arith
le-fold-max a (x ∷ xs) = omega (arith, le-max_left a x, le-fold-max (max a x) xs)

in-le-fold-max : (a x : ℕ) (xs : List ℕ) → IsIn x xs → x ≤ fold max a xs
in-le-fold-max a x [] h = absurd h
in-le-fold-max a x (y ∷ ys) (inl e) = omega (arith, e, le-max_right a y, le-fold-max (max a y) ys)
in-le-fold-max a x (y ∷ ys) (inr h) = in-le-fold-max (max a y) x ys h

fold-max-le : (a m : ℕ) (xs : List ℕ) → a ≤ m → AllByRecursion (λ x. x ≤ m) xs → fold max a xs ≤ m
fold-max-le a m [] le all = le
fold-max-le a m (x ∷ xs) le all = fold-max-le (max a x) m xs (max-le le all.0) all.1

abbrev group_ids : ItemStore → List ℕ
group_ids s = map (λ (g : Group). g.id) s.groups

pub le-greatest_id : (s : ItemStore) (id : ℕ) → IsIn id (ids_of s.items) → id ≤ greatest_id s
le-greatest_id s id there = in-le-fold-max 0 id (ids_of s.items ++ group_ids s) (in_front id (ids_of s.items) (group_ids s) there)

-- an id takes four bytes
ids_fit : (is ks : List Item) → AllByRecursion (IsGoodItem is) ks → AllByRecursion (λ id. id ≤ 256 ^ 4 - 1) (ids_of ks)
ids_fit is [] good = tt
ids_fit is (k ∷ ks) good = (omega (arith, good.0.id), ids_fit is ks good.1)

groups_fit : (is : List Item) (gs : List Group) → AllByRecursion (IsGoodGroup is) gs → AllByRecursion (λ id. id ≤ 256 ^ 4 - 1) (map (λ (g : Group). g.id) gs)
groups_fit is [] good = tt
groups_fit is (g ∷ gs) good = (omega (arith, good.0.id), groups_fit is gs good.1)

pub greatest_id_fits : (s : ItemStore) → Valid s → greatest_id s ≤ 256 ^ 4 - 1
greatest_id_fits s valid =
    fold-max-le 0 (256 ^ 4 - 1) (ids_of s.items ++ group_ids s) (omega arith)
    (all_append (λ id. id ≤ 256 ^ 4 - 1) (ids_of s.items) (group_ids s) (ids_fit s.items s.items valid.items) (groups_fit s.items s.groups valid.groups))

-- ---- one more at the end

rises_push : (low x : ℕ) (xs : List ℕ) → RisesFrom ◌<◌ low xs → low < x → ((y : ℕ) → IsIn y xs → y < x) → RisesFrom ◌<◌ low (xs ++ x ∷ [])
rises_push low x [] rises less above = (less, tt)
rises_push low x (y ∷ ys) rises less above = (rises.0, rises_push y x ys rises.1 (above y (inl refl)) (λ z h. above z (inr h)))

-- the limits of a store
pub record AreKept (s : ItemStore) : Type 0 where
  pub count : length s.items ≤ limits.ITEMS
  pub kinds : length (table_of s) ≤ limits.KINDS
  pub body : body_sum s.items ≤ limits.BODY
  pub meta : meta_len s ≤ limits.META

module _ (s : ItemStore) (i : Item) where
  ids-added : ids_of (added i s).items ≡ ids_of s.items ++ i.id ∷ []
  ids-added = map-append (λ (j : Item). j.id) s.items (i ∷ [])

  more : (id : ℕ) → IsIn id (ids_of s.items) → IsIn id (ids_of (added i s).items)
  more id there = subst (IsIn id) (sym ids-added) (in_front id (ids_of s.items) (i.id ∷ []) there)

  abbrev pairs : Item → List (ℕ × ℕ)
  pairs j = map (λ to. (j.id, to)) (inputs j.refs)

  pairs-added : inputs i.refs ≡ [] → input_pairs (added i s).items ≡ input_pairs s.items
  pairs-added none =
      let alone : flat_map pairs (i ∷ []) ≡ [] = ap (λ (ids : List ℕ). map (λ to. (i.id, to)) ids ++ []) none in
      flat_map-append pairs s.items (i ∷ []) ∙ ap (λ ps. input_pairs s.items ++ ps) alone ∙ append-nil (input_pairs s.items)

  pub valid_added : Valid s → IsGoodItem s.items i → ((id : ℕ) → IsIn id (ids_of s.items) → id < i.id) → inputs i.refs ≡ []
      → AreKept (added i s)
      → Valid (added i s)
  valid_added valid good above alone kept = record {
    brands = valid.brands;
    ids_rise = subst (RisesFrom ◌<◌ 0) (sym ids-added) (rises_push 0 i.id (ids_of s.items) valid.ids_rise (omega (arith, above s.primary valid.primary)) above);
    primary = more s.primary valid.primary;
    items =
        all_append (IsGoodItem (added i s).items) s.items (i ∷ []) (all_good_items s.items (added i s).items more s.items valid.items)
        (good_item s.items (added i s).items more i good, tt);
    groups_rise = valid.groups_rise;
    groups = all_good_groups s.items (added i s).items more s.groups valid.groups;
    ends = λ walk endless. valid.ends walk (subst (λ ps. IsEndless ps walk) (pairs-added alone) endless);
    count = kept.count;
    kinds = kept.kinds;
    body = kept.body;
    meta = kept.meta;
  }
