-- What taking an item out of the code's list makes of the store and of its counts.
use Rattle.std.proofs.Common.{◌≡◌, ℕ, ◌+◌, ◌^◌, ◌<◌, ◌≤◌, List, [], ◌∷◌, ◌++◌, length, map, get_or, refl, sym, ap, ◌∙◌, subst, arith, Some}
use Rattle.std.specs.Prelude.{slice_get}
use Rattle.std.specs.List.{flat_map, sum_by, remove}
use Rattle.hf_store.specs.Changes.{id_at, is_other, cut_item, cut_items, cut_groups, cut, removed}
use Rattle.hf_base.specs.declared.limits.TheConstants as limits
use Rattle.hf_store.specs.Capped.{capped, capped_counts}
use Rattle.hf_store.specs.Counts.{Counts, HasCounts, plus, targets_of, counts_of_item, counts_of_items, counts_of_groups, counts_of, with_items}
use Rattle.hf_store.specs.Kept.{IsKept}
use Rattle.hf_store.specs.Lists.{RisesFrom}
use Rattle.hf_store.specs.Referred.{HasAll, HaveTargets, all_targets}
use Rattle.hf_store.specs.Seen.{item_of, items_of, store_of}
use Rattle.hf_store.specs.Sizes.{AreFew}
use Rattle.hf_store.specs.Store.{Item, Group, ItemStore, ids_of}
use Rattle.hf_store.specs.Table.{props_of}
use Rattle.hf_store.specs.Valid.{IsGoodItem, Valid}
use Rattle.hf_store.specs.declared.item.Item.{Item as CodeItem}
use Rattle.hf_store.specs.declared.store.Store.TheInside.{Inside}
use Rattle.hf_table.specs.Uses.{Use, Gains, Tallies, Holds}
use Rattle.hf_table.proofs.Stores.{holds-at, tallies-removed}
use Rattle.hf_store.proofs.Counted.{item_goes}
use Rattle.hf_store.proofs.CountsAre.{sum-zero}
use Rattle.hf_store.proofs.Few.{few_capped, few_part, has_part, plus-cancel}
use Rattle.hf_store.proofs.FewCounts.{counts_few}
use Rattle.hf_store.proofs.Mapped.{here_at}
use Rattle.hf_store.proofs.Removals.{others, others-removed}
use Rattle.hf_store.proofs.Sizes.{sum-map}
use Rattle.hf_store.proofs.Spots.{at_or, id_here, within_at, get_map}
use Rattle.hf_store.proofs.Targets.{all_removed, have_targets, targets_removed}
use Rattle.std.proofs.lemmas.List.{length-map}

pub props-cut : (stays : ℕ → _) (is : List Item) → flat_map props_of (map (cut_item stays) is) ≡ flat_map props_of is
props-cut stays [] = refl
props-cut stays (i ∷ is) = ap (λ ps. props_of i ++ ps) (props-cut stays is)

pub removed_is : (s : ItemStore) (k : ℕ) (x : Item) (items : List Item) (groups : List Group) → RisesFrom ◌<◌ 0 (ids_of s.items) → slice_get s.items k ≡ Some x → items ≡ map (cut_item (is_other x.id)) (remove s.items k) → groups ≡ cut_groups (is_other x.id) s.groups
    → record s { items = items; groups = groups } ≡ removed (id_at k s.items) s
unfolding cut
removed_is s k x items groups rises here e f =
    let id : id_at k s.items ≡ x.id = at_or (ids_of s.items) k x.id 0 (id_here s.items k x here) in
    let made : List Item → List Group → ItemStore = λ is gs. record s { items = is; groups = gs } in
    let left : remove s.items k ≡ others (id_at k s.items) s.items = sym (others-removed 0 s.items k rises (within_at s.items k x here)) in
    let now : items ≡ cut_items (is_other (id_at k s.items)) s.items = e ∙ ap (λ n. map (cut_item (is_other n)) (remove s.items k)) (sym id) ∙ ap (map (cut_item (is_other (id_at k s.items)))) left in
    ap (λ is. made is groups) now ∙ ap (made (cut_items (is_other (id_at k s.items)) s.items)) (f ∙ ap (λ n. cut_groups (is_other n) s.groups) (sym id))

-- the counts where links and groups are counted anew
pub relinked_is : (stays : ℕ → _) (is : List Item) (old new : List Group) (counts : Counts) (lists targets : ℕ) → counts ≡ plus (counts_of_items is) (counts_of_groups old)
    → lists ≡ sum_by (λ (i : Item). length i.refs) (map (cut_item stays) is) → targets ≡ sum_by (λ (i : Item). targets_of i.refs) (map (cut_item stays) is)
    → record counts { links = lists; targets = targets; groups = (counts_of_groups new).groups; entities = (counts_of_groups new).entities; tails = (counts_of_groups new).tails } ≡ plus (counts_of_items (map (cut_item stays) is)) (counts_of_groups new)
relinked_is stays is old new counts lists targets e f g =
    let left = map (cut_item stays) is in
    let same : (h : Item → ℕ) → sum_by h left ≡ sum_by (λ i. h (cut_item stays i)) is = λ h. sum-map h (cut_item stays) is in
    let none = sum-zero old in
    let no = sum-zero new in
    let nothing = sum-zero left in
    λ j. record {
      items = kept counts.items _ _ _ _ (ap (λ (c : Counts). c.items) e) none no (same (λ (i : Item). (counts_of_item i).items)) j;
      located = kept counts.located _ _ _ _ (ap (λ (c : Counts). c.located) e) none no (same (λ (i : Item). (counts_of_item i).located)) j;
      wide = kept counts.wide _ _ _ _ (ap (λ (c : Counts). c.wide) e) none no (same (λ (i : Item). (counts_of_item i).wide)) j;
      strings = kept counts.strings _ _ _ _ (ap (λ (c : Counts). c.strings) e) none no (same (λ (i : Item). (counts_of_item i).strings)) j;
      links = linked lists _ _ f no j;
      targets = linked targets _ _ g no j;
      holders = kept counts.holders _ _ _ _ (ap (λ (c : Counts). c.holders) e) none no (same (λ (i : Item). (counts_of_item i).holders)) j;
      picks = kept counts.picks _ _ _ _ (ap (λ (c : Counts). c.picks) e) none no (same (λ (i : Item). (counts_of_item i).picks)) j;
      idat = kept counts.idat _ _ _ _ (ap (λ (c : Counts). c.idat) e) none no (same (λ (i : Item). (counts_of_item i).idat)) j;
      mdat = kept counts.mdat _ _ _ _ (ap (λ (c : Counts). c.mdat) e) none no (same (λ (i : Item). (counts_of_item i).mdat)) j;
      groups = grouped _ (counts_of_groups new).groups nothing j;
      entities = grouped _ (counts_of_groups new).entities nothing j;
      tails = grouped _ (counts_of_groups new).tails nothing j;
    }
  where
    kept : (n some old now new : ℕ) → n ≡ some + old → old ≡ 0 → new ≡ 0 → now ≡ some → n ≡ now + new
    kept n some old now new e a b c = omega (arith, e, a, b, c)

    linked : (n now new : ℕ) → n ≡ now → new ≡ 0 → n ≡ now + new
    linked n now new e b = omega (arith, e, b)

    grouped : (now new : ℕ) → now ≡ 0 → new ≡ now + new
    grouped now new b = omega (arith, b)

-- ---- the code takes an item out

module _ (inside : Inside) (s : ItemStore) (view : store_of inside ≡ s) (kept : IsKept inside) (k : ℕ) (place : k < length s.items) (item : CodeItem) (value : item ≡ get_or inside.items.items k item) where
  within : k < length inside.items.items
  within = omega (arith, subst (λ (t : ItemStore). k < length t.items) (sym view) place, length-map inside.items.items item_of)

  pub taken_here : slice_get (items_of inside.items.items) k ≡ Some (item_of item)
  taken_here = get_map item_of inside.items.items k item (here_at inside.items.items k item within value)

  among : item_of item ≡ get_or (items_of inside.items.items) k (item_of item)
  among = sym (at_or (items_of inside.items.items) k (item_of item) (item_of item) taken_here)

  inner : k < length (items_of inside.items.items)
  inner = within_at (items_of inside.items.items) k (item_of item) taken_here

  -- its properties are held
  pub taken_holds : Holds inside.uses (props_of (item_of item))
  taken_holds = holds-at props_of inside.uses (items_of inside.items.items) kept.tallies k (item_of item) inner among

  -- and the uses without them are those of the others
  pub taken_tallies : (new : List Use) → Gains new (props_of (item_of item)) inside.uses → Tallies new (flat_map props_of (remove (items_of inside.items.items) k))
  taken_tallies new down = tallies-removed props_of inside.uses (items_of inside.items.items) kept.tallies k (item_of item) inner among new down

  -- the ids that references of the others lead to are known
  pub taken_known : HasAll inside.referred (all_targets (remove (items_of inside.items.items) k))
  taken_known id h = kept.referred id (targets_removed (items_of inside.items.items) k id h)

  pub taken_targets : HaveTargets (remove (items_of inside.items.items) k)
  taken_targets =
      let is = items_of inside.items.items in
      have_targets is (remove is k) (all_removed (IsGoodItem is) is k kept.valid.items)

  unfoldable rest : Counts
  rest = counts_of (with_items (store_of inside) (remove (items_of inside.items.items) k))

  parts : plus rest (counts_of_item (item_of item)) ≡ inside.counts
  unfolding rest
  parts = item_goes (store_of inside) k (item_of item) taken_here ∙ sym kept.counted

  -- it has counts in those of all
  pub taken_part : HasCounts inside.counts (capped_counts (counts_of_item (item_of item)))
  taken_part = has_part inside.counts rest (counts_of_item (item_of item)) parts

  pub taken_exact : (part : Counts) → part ≡ capped_counts (counts_of_item (item_of item)) → part ≡ counts_of_item (item_of item)
  taken_exact part is =
      let few : AreFew inside.counts = subst AreFew (sym kept.counted) (counts_few (store_of inside) kept.valid) in
      is ∙ few_capped (counts_of_item (item_of item)) (few_part inside.counts rest (counts_of_item (item_of item)) few parts)

  -- and what is left of them are those of the others
  pub taken_left : (left part : Counts) → part ≡ capped_counts (counts_of_item (item_of item)) → plus left part ≡ inside.counts → left ≡ plus (counts_of_items (remove (items_of inside.items.items) k)) (counts_of_groups (store_of inside).groups)
  unfolding rest counts_of
  taken_left left part is sum =
      let exact : part ≡ counts_of_item (item_of item) = taken_exact part is in
      plus-cancel left rest (counts_of_item (item_of item)) (ap (plus left) (sym exact) ∙ sum ∙ sym parts)

-- what is counted anew over a valid store is exact
pub record AreExact (t : ItemStore) (lists targets : ℕ) (g : Counts) : Type 0 where
  pub lists_are : lists ≡ sum_by (λ (i : Item). length i.refs) t.items
  pub targets_are : targets ≡ sum_by (λ (i : Item). targets_of i.refs) t.items
  pub groups : g.groups ≡ (counts_of_groups t.groups).groups
  pub entities : g.entities ≡ (counts_of_groups t.groups).entities
  pub tails : g.tails ≡ (counts_of_groups t.groups).tails

few_is : (n m k : ℕ) → n ≡ capped m → m ≤ k → k ≤ 2 ^ 62 → n ≡ m
few_is n m k e le small = omega (arith, e, le, small)

pub counted_anew : (t : ItemStore) → Valid t → (lists targets : ℕ) (g : Counts) → lists ≡ capped (sum_by (λ (i : Item). length i.refs) t.items) → targets ≡ capped (sum_by (λ (i : Item). targets_of i.refs) t.items)
    → g ≡ capped_counts (counts_of_groups t.groups) → AreExact t lists targets g
unfolding counts_of
counted_anew t valid lists targets g e f h =
    let few = counts_few t valid in
    record {
      lists_are = few_is lists _ limits.META e (omega (arith, few.links)) (omega arith);
      targets_are = few_is targets _ limits.META f (omega (arith, few.targets)) (omega arith);
      groups = few_is g.groups _ limits.META (ap (λ (c : Counts). c.groups) h) (omega (arith, few.groups)) (omega arith);
      entities = few_is g.entities _ limits.META (ap (λ (c : Counts). c.entities) h) (omega (arith, few.entities)) (omega arith);
      tails = few_is g.tails _ limits.META (ap (λ (c : Counts). c.tails) h) (omega (arith, few.tails)) (omega arith);
    }
