-- What an item more makes of the store and of its counts.
use Rattle.std.proofs.Common.{◌≡◌, ◌≤◌, List, [], ◌∷◌, ◌++◌, length, map, sym, ap, ◌∙◌, subst, arith}
use Rattle.std.specs.List.{AllByRecursion, flat_map}
use Rattle.std.proofs.lemmas.List.Elements.{All-from_recursion}
use Rattle.std.proofs.lemmas.List.{length-map}
use Rattle.hf_base.specs.declared.limits.TheConstants as limits
use Rattle.hf_store.specs.Capped.{capped_counts}
use Rattle.hf_store.specs.Changes.{added}
use Rattle.hf_store.specs.Counts.{Counts, no_counts, plus, counts_of_item, counts_of_items, counts_of_groups, counts_of}
use Rattle.hf_store.specs.Kept.{IsKept}
use Rattle.hf_store.specs.Referred.{HasAll, all_targets}
use Rattle.hf_store.specs.Seen.{store_of}
use Rattle.hf_store.specs.Store.{Prop, Held, Item, ItemStore}
use Rattle.hf_store.specs.Table.{props_of}
use Rattle.hf_store.specs.Valid.{IsGoodItem, Valid}
use Rattle.hf_store.specs.declared.store.Store.TheInside.{Inside}
use Rattle.hf_table.specs.Table.{table, size_sum}
use Rattle.hf_table.specs.Uses.{IsCount, Gains, Tallies, HasRoom}
use Rattle.hf_table.proofs.Rooms.{limits_leave_room}
use Rattle.hf_table.proofs.Stores.{among-pushed}
use Rattle.hf_store.proofs.Counted.{summed-append, summed-cons, plus-swap}
use Rattle.hf_store.proofs.Few.{few_capped, light_props}
use Rattle.hf_store.proofs.FewCounts.{counts_few}
use Rattle.hf_store.proofs.Swapped.{plus-right, short_all}
use Rattle.hf_store.proofs.Uses.{all-mapped}

good_last : (P : Item → Type 0) (xs : List Item) (x : Item) → AllByRecursion P (xs ++ x ∷ []) → P x
good_last P [] x good = good.0
good_last P (y ∷ ys) x good = good_last P ys x good.1

plus-none : (c : Counts) → plus c no_counts ≡ c
plus-none c = grind arith

pub counts-pushed : (is : List Item) (g : Counts) (x : Item) → plus (counts_of_items (is ++ x ∷ [])) g ≡ plus (plus (counts_of_items is) g) (counts_of_item x)
counts-pushed is g x =
    ap (λ c. plus c g) (summed-append counts_of_item is (x ∷ []) ∙ ap (plus (counts_of_items is)) (summed-cons counts_of_item x [] ∙ plus-none (counts_of_item x))) ∙ plus-swap (counts_of_items is) (counts_of_item x) g

module _ (inside : Inside) (kept : IsKept inside) (x : Item) (valid : Valid (added x (store_of inside))) where
  pub pushed_room : IsCount inside.uses → HasRoom inside.uses (props_of x)
  pushed_room count =
      let is = (store_of inside).items in
      let good : IsGoodItem (is ++ x ∷ []) x = good_last (IsGoodItem (is ++ x ∷ [])) is x valid.items in
      limits_leave_room inside.uses (map props_of is) (props_of x) (flat_map props_of (is ++ x ∷ [])) count (subst (Tallies inside.uses) (sym (all-mapped is)) kept.tallies)
      (omega (arith, kept.valid.count, length-map is props_of)) (All-from_recursion (λ (ps : List Prop). length ps ≤ limits.PROPS) (map props_of is) (short_all is is kept.valid.items))
      (subst (λ ps. size_sum (table ps) ≤ limits.META) (sym (all-mapped is)) (light_props (store_of inside) kept.valid))
      (omega (arith, good.props, length-map x.props (λ (h : Held). h.prop))) (among-pushed props_of is x) (light_props (added x (store_of inside)) valid)

  pub pushed_counts : (part all : Counts) → part ≡ capped_counts (counts_of_item x) → all ≡ capped_counts (plus inside.counts part) → all ≡ counts_of (added x (store_of inside))
  unfolding counts_of
  pushed_counts part all e f =
      let t = added x (store_of inside) in
      let sum : plus inside.counts (counts_of_item x) ≡ counts_of t = ap (λ c. plus c (counts_of_item x)) kept.counted ∙ sym (counts-pushed (store_of inside).items (counts_of_groups (store_of inside).groups) x) in
      f ∙ ap (λ c. capped_counts (plus inside.counts c)) e ∙ plus-right inside.counts (counts_of_item x) ∙ ap capped_counts sum ∙ few_capped (counts_of t) (counts_few t valid)

-- where nothing changed but that more ids are known, all is kept
pub still_kept : (inside now : Inside) → store_of now ≡ store_of inside → Gains inside.uses [] now.uses → now.counts ≡ inside.counts
    → HasAll now.referred inside.referred → IsKept inside → IsKept now
still_kept inside now same uses counts more kept = record {
  valid = subst Valid (sym same) kept.valid;
  tallies =
      subst (λ (s : ItemStore). Tallies now.uses (flat_map props_of s.items)) (sym same)
      (record { each = λ q. omega (arith, uses.each q, kept.tallies.each q) });
  counted = counts ∙ kept.counted ∙ ap counts_of (sym same);
  referred = subst (λ (s : ItemStore). HasAll now.referred (all_targets s.items)) (sym same) (λ id h. more id (kept.referred id h));
}
