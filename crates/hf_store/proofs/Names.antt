-- What is left of a store whose items lose their names.
use Rattle.std.proofs.Common.{◌≡◌, ◌+◌, ◌^◌, ◌<◌, ◌≤◌, ◌||◌, ℕ, leb, List, [], ◌∷◌, ◌++◌, length, length-append, map, refl, sym, ap, ◌∙◌, subst, arith, inl, inr}
use Rattle.std.specs.List.{AllByRecursion, flat_map, sum_by}
use Rattle.std.proofs.lemmas.List.{length-map}
use Rattle.std.proofs.lemmas.List.Sums.{sum_by-cons}
use Rattle.hf_base.specs.NumberLaws.{length-num}
use Rattle.hf_box.specs.Written.{id_width, zero_ended}
use Rattle.hf_store.specs.Changes.{unnamed, without_names}
use Rattle.hf_store.specs.Counts.{HasCounts, strings_of, counts_of_item, counts_of}
use Rattle.hf_store.specs.Derived.{inputs, input_pairs, IsEndless}
use Rattle.hf_store.specs.Layout.{is_wide}
use Rattle.hf_store.specs.Lists.{IsIn, RisesFrom}
use Rattle.hf_store.specs.Sizes.{AreFours, counted_meta, short_props}
use Rattle.hf_store.specs.Store.{RefList, Item, Group, ItemStore, ids_of}
use Rattle.hf_store.specs.Table.{props_of, table_of}
use Rattle.hf_store.specs.Valid.{body_sum, IsGoodRef, IsGoodItem, IsGoodGroup, meta_len, Valid}
use Rattle.hf_table.specs.Table.{table}
use Rattle.hf_store.proofs.CutSizes.{meta-mono}
use Rattle.hf_store.proofs.MetaCounts.{good_fours, valid_fours, meta_is_counted}
use Rattle.hf_store.proofs.Sizes.{sum-map}

-- what a name says nothing of stays
map-unnamed : {B : Type 0} (f : Item → B) (is : List Item) → ((i : Item) → f (unnamed i) ≡ f i) → map f (map unnamed is) ≡ map f is
map-unnamed f [] same = refl
map-unnamed f (i ∷ is) same = ap (λ y. y ∷ map f (map unnamed is)) (same i) ∙ ap (λ ys. f i ∷ ys) (map-unnamed f is same)

flat_map-unnamed : {B : Type 0} (f : Item → List B) (is : List Item) → ((i : Item) → f (unnamed i) ≡ f i) → flat_map f (map unnamed is) ≡ flat_map f is
flat_map-unnamed f [] same = refl
flat_map-unnamed f (i ∷ is) same = ap (λ ys. ys ++ flat_map f (map unnamed is)) (same i) ∙ ap (λ ys. f i ++ ys) (flat_map-unnamed f is same)

pub props-unnamed : (is : List Item) → flat_map props_of (map unnamed is) ≡ flat_map props_of is
props-unnamed is = flat_map-unnamed props_of is (λ i. refl)

ids-unnamed : (is : List Item) → ids_of (map unnamed is) ≡ ids_of is
ids-unnamed is = map-unnamed (λ (i : Item). i.id) is (λ i. refl)

pairs-unnamed : (is : List Item) → input_pairs (map unnamed is) ≡ input_pairs is
pairs-unnamed is = flat_map-unnamed (λ (i : Item). map (λ to. (i.id, to)) (inputs i.refs)) is (λ i. refl)

-- ---- items and groups are good where the ids are the same

all_passed : {A B : Type 0} (Q : A → Type 0) (P : B → Type 0) (f : A → B) (xs : List A) → AllByRecursion Q xs → ((x : A) → Q x → P (f x)) → AllByRecursion P (map f xs)
all_passed Q P f [] all each = tt
all_passed Q P f (x ∷ xs) all each = (each x all.0, all_passed Q P f xs all.1 each)

all_same : {A : Type 0} (Q P : A → Type 0) (xs : List A) → AllByRecursion Q xs → ((x : A) → Q x → P x) → AllByRecursion P xs
all_same Q P [] all each = tt
all_same Q P (x ∷ xs) all each = (each x all.0, all_same Q P xs all.1 each)

module _ (is js : List Item) (ids : ids_of is ≡ ids_of js) where
  good_ref : (r : RefList) → IsGoodRef is r → IsGoodRef js r
  good_ref r good = record {
    kind = good.kind;
    not_iloc = good.not_iloc;
    some = good.some;
    links = good.links;
    to = subst (λ xs. AllByRecursion (λ id. IsIn id xs) r.to) ids good.to;
  }

  good_unnamed : (i : Item) → IsGoodItem is i → IsGoodItem js (unnamed i)
  good_unnamed i good = record {
    id = good.id;
    kind = good.kind;
    name = tt;
    content = good.content;
    encoding = good.encoding;
    uri = good.uri;
    only_mime = good.only_mime;
    only_uri = good.only_uri;
    props = good.props;
    prop_kinds = good.prop_kinds;
    refs = all_same (IsGoodRef is) (IsGoodRef js) i.refs good.refs good_ref;
    kinds_rise = good.kinds_rise;
    fits = good.fits;
  }

  good_group : (g : Group) → IsGoodGroup is g → IsGoodGroup js g
  good_group g good = record {
    kind = good.kind;
    version = good.version;
    flags = good.flags;
    id = good.id;
    some = good.some;
    entities = subst (λ xs. AllByRecursion (λ id. IsIn id xs) g.entities) ids good.entities;
  }

-- ---- `meta` is no longer

sum-unnamed : (f : Item → ℕ) (is : List Item) → ((i : Item) → f (unnamed i) ≤ f i) → sum_by f (map unnamed is) ≤ sum_by f is
sum-unnamed f [] less = omega arith
sum-unnamed f (i ∷ is) less = omega (arith, sum_by-cons f (unnamed i) (map unnamed is), sum_by-cons f i is, less i, sum-unnamed f is less)

length-zero_ended : (bytes : List ℕ) → length (zero_ended bytes) ≡ length bytes + 1
length-zero_ended bytes = simp (length-append, length-num) (omega arith)

strings-unnamed : (i : Item) → strings_of (unnamed i) ≤ strings_of i
strings-unnamed i = omega (arith, length-zero_ended [], length-zero_ended i.name)

counts-unnamed : (s : ItemStore) → HasCounts (counts_of s) (counts_of (without_names s))
unfolding counts_of
counts-unnamed s = record {
  items = omega (arith, sum-unnamed (λ (i : Item). (counts_of_item i).items) s.items (λ i. omega arith));
  located = omega (arith, sum-unnamed (λ (i : Item). (counts_of_item i).located) s.items (λ i. omega arith));
  wide = omega (arith, sum-unnamed (λ (i : Item). (counts_of_item i).wide) s.items (λ i. omega arith));
  strings = omega (arith, sum-unnamed (λ (i : Item). (counts_of_item i).strings) s.items strings-unnamed);
  links = omega (arith, sum-unnamed (λ (i : Item). (counts_of_item i).links) s.items (λ i. omega arith));
  targets = omega (arith, sum-unnamed (λ (i : Item). (counts_of_item i).targets) s.items (λ i. omega arith));
  holders = omega (arith, sum-unnamed (λ (i : Item). (counts_of_item i).holders) s.items (λ i. omega arith));
  picks = omega (arith, sum-unnamed (λ (i : Item). (counts_of_item i).picks) s.items (λ i. omega arith));
  idat = omega (arith, sum-unnamed (λ (i : Item). (counts_of_item i).idat) s.items (λ i. omega arith));
  mdat = omega (arith, sum-unnamed (λ (i : Item). (counts_of_item i).mdat) s.items (λ i. omega arith));
  groups = omega (arith, sum-unnamed (λ (i : Item). (counts_of_item i).groups) s.items (λ i. omega arith));
  entities = omega (arith, sum-unnamed (λ (i : Item). (counts_of_item i).entities) s.items (λ i. omega arith));
  tails = omega (arith, sum-unnamed (λ (i : Item). (counts_of_item i).tails) s.items (λ i. omega arith));
}

wide-unnamed : (is : List Item) → is_wide (map unnamed is) ≡ is_wide is
unfolding is_wide
wide-unnamed [] = refl
wide-unnamed (i ∷ is) = ap (λ b. leb (256 ^ 2) i.id || b) (wide-unnamed is)

module _ (s : ItemStore) (valid : Valid s) where
  items_good : AllByRecursion (IsGoodItem (without_names s).items) (without_names s).items
  items_good = all_passed (IsGoodItem s.items) (IsGoodItem (map unnamed s.items)) unnamed s.items valid.items (good_unnamed s.items (map unnamed s.items) (sym (ids-unnamed s.items)))

  fours : AreFours (without_names s)
  fours = good_fours (without_names s) items_good (valid_fours s valid).groups

  table_same : table_of (without_names s) ≡ table_of s
  unfolding table_of
  table_same = ap table (props-unnamed s.items)

  counted : counted_meta (without_names s) ≤ counted_meta s
  counted =
      let t = without_names s in
      meta-mono (is_wide t.items) (is_wide s.items) (length (table_of t)) (length (table_of s)) (counts_of t) (counts_of s) (short_props (table_of t)) (short_props (table_of s))
      (omega (arith, ap id_width (wide-unnamed s.items))) (omega (arith, ap length table_same)) (counts-unnamed s) (omega (arith, ap short_props table_same))

  meta_less : meta_len (without_names s) ≤ meta_len s
  meta_less =
      let before = (meta_is_counted s (valid_fours s valid) (inl valid.meta)).1 in
      let after = (meta_is_counted (without_names s) fours (inr (omega (arith, counted, before, valid.meta)))).1 in
      omega (arith, before, after, counted)

  pub valid_unnamed : Valid (without_names s)
  unfolding body_sum
  valid_unnamed = record {
    brands = valid.brands;
    ids_rise = subst (RisesFrom ◌<◌ 0) (sym (ids-unnamed s.items)) valid.ids_rise;
    primary = subst (IsIn s.primary) (sym (ids-unnamed s.items)) valid.primary;
    items = items_good;
    groups_rise = valid.groups_rise;
    groups = all_same (IsGoodGroup s.items) (IsGoodGroup (map unnamed s.items)) s.groups valid.groups (good_group s.items (map unnamed s.items) (sym (ids-unnamed s.items)));
    ends = λ walk endless. valid.ends walk (subst (λ pairs. IsEndless pairs walk) (pairs-unnamed s.items) endless);
    count = omega (arith, length-map s.items unnamed, valid.count);
    kinds = omega (arith, ap length table_same, valid.kinds);
    body = omega (arith, sum-map (λ (i : Item). length i.bytes) unnamed s.items, valid.body);
    meta = omega (arith, meta_less, valid.meta);
  }
