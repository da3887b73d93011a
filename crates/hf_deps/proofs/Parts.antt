-- A valid store stays valid where items lose properties or change their marks.
use Rattle.std.proofs.Common.{◌≡◌, ◌<◌, ◌≤◌, ◌||◌, ℕ, zero, suc, Bool, true, ltb, List, [], ◌∷◌, ◌++◌, length, map, filter, refl, sym, ap, ◌∙◌, subst, arith, inl, inr, append_assoc}
use Rattle.std.specs.List.{AllByRecursion, flat_map, list_any, sum_by}
use Rattle.std.proofs.lemmas.Bool.{cases_Bool, cases_lt, lt-ltb, le-ltb}
use Rattle.std.proofs.lemmas.List.{length-map}
use Rattle.std.proofs.lemmas.List.Sums.{sum_by-cons}
use Rattle.hf_base.specs.declared.limits.TheConstants as limits
use Rattle.hf_box.specs.Written.{bit, id_width}
use Rattle.hf_prop.specs.declared.held.Held.{Held}
use Rattle.hf_prop.specs.declared.prop.Prop.{Prop}
use Rattle.hf_table.specs.Held.{props_in}
use Rattle.hf_store.specs.Changes.{changed_at}
use Rattle.hf_store.specs.Counts.{HasCounts, counts_of_item, counts_of}
use Rattle.hf_store.specs.Derived.{inputs, input_pairs, IsEndless}
use Rattle.hf_store.specs.Layout.{has_props, is_wide}
use Rattle.hf_store.specs.Lists.{IsIn, RisesFrom}
use Rattle.hf_store.specs.Sizes.{AreFours, counted_meta, short_props}
use Rattle.hf_store.specs.Store.{Item, Group, ItemStore, ids_of}
use Rattle.hf_store.specs.declared.item.RefList.{RefList}
use Rattle.hf_store.specs.Table.{props_of, table_of}
use Rattle.hf_store.specs.Valid.{body_sum, IsFour, IsGoodRef, IsGoodItem, IsGoodGroup, meta_len, Valid}
use Rattle.hf_store.proofs.CutSizes.{meta-mono}
use Rattle.hf_store.proofs.CutTables.{IsLess, without_some}
use Rattle.hf_store.proofs.Cuts.{filter-le}
use Rattle.hf_store.proofs.MetaCounts.{good_fours, valid_fours, meta_is_counted}

-- an item with another mark, or with some properties less
pub record IsPart (whole part : Item) : Type 0 where
  pub same : part ≡ record whole { hidden = part.hidden; props = part.props }
  pub stays : (test : Held → Bool) × (part.props ≡ filter test whole.props)

pub filter-all : {A : Type 0} (xs : List A) → filter (λ x. true) xs ≡ xs
filter-all [] = refl
filter-all (x ∷ xs) = ap (λ ys. x ∷ ys) (filter-all xs)

all_filtered : {A : Type 0} (P : A → Type 0) (test : A → Bool) (xs : List A) → AllByRecursion P xs → AllByRecursion P (filter test xs)
all_filtered P test [] all = tt
all_filtered P test (x ∷ xs) all =
    elim (cases_Bool (test x)) [
      | inl here ↦ rw here (all.0, all_filtered P test xs all.1)
      | inr gone ↦ rw gone (all_filtered P test xs all.1)
    ]

all_same : {A : Type 0} (Q P : A → Type 0) (xs : List A) → AllByRecursion Q xs → ((x : A) → Q x → P x) → AllByRecursion P xs
all_same Q P [] all each = tt
all_same Q P (x ∷ xs) all each = (each x all.0, all_same Q P xs all.1 each)

-- ---- items and groups are good where the ids are the same

module _ (is js : List Item) (ids : ids_of is ≡ ids_of js) where
  good_ref : (r : RefList) → IsGoodRef is r → IsGoodRef js r
  good_ref r good = record {
    kind = good.kind;
    not_iloc = good.not_iloc;
    some = good.some;
    links = good.links;
    to = subst (λ xs. AllByRecursion (λ id. IsIn id xs) r.to) ids good.to;
  }

  good_part : (i : Item) (hidden : Bool) (held : List Held) → IsGoodItem is i → length held ≤ limits.PROPS
      → AllByRecursion (λ (h : Held). IsFour h.prop.kind) held
      → IsGoodItem js (record i { hidden = hidden; props = held })
  good_part i hidden held good few kinds = record {
    id = good.id;
    kind = good.kind;
    name = good.name;
    content = good.content;
    encoding = good.encoding;
    uri = good.uri;
    only_mime = good.only_mime;
    only_uri = good.only_uri;
    props = few;
    prop_kinds = kinds;
    refs = all_same (IsGoodRef is) (IsGoodRef js) i.refs good.refs good_ref;
    kinds_rise = good.kinds_rise;
    fits = good.fits;
  }

  pub good_group : (g : Group) → IsGoodGroup is g → IsGoodGroup js g
  good_group g good = record {
    kind = good.kind;
    version = good.version;
    flags = good.flags;
    id = good.id;
    some = good.some;
    entities = subst (λ xs. AllByRecursion (λ id. IsIn id xs) g.entities) ids good.entities;
  }

  pub good_item : (i j : Item) → IsPart i j → IsGoodItem is i → IsGoodItem js j
  good_item i j part good =
      let test = part.stays.0 in
      let some = part.stays.1 in
      let few : length j.props ≤ limits.PROPS = omega (arith, ap length some, filter-le test i.props, good.props) in
      let kinds = all_filtered (λ (h : Held). IsFour h.prop.kind) test i.props good.prop_kinds in
      subst (IsGoodItem js) (sym part.same) (good_part i j.hidden j.props good few (subst (AllByRecursion (λ (h : Held). IsFour h.prop.kind)) (sym some) kinds))

-- ---- the table of properties

itself : (ps : List Prop) → IsLess ps ps
itself ps = record { kinds = omega arith; bytes = omega arith }

transitive : (some more all : List Prop) → IsLess some more → IsLess more all → IsLess some all
transitive some more all a b = record { kinds = omega (arith, a.kinds, b.kinds); bytes = omega (arith, a.bytes, b.bytes) }

nested : (before ps some all : List Prop) → IsLess ((before ++ ps) ++ some) ((before ++ ps) ++ all) → IsLess (before ++ (ps ++ some)) (before ++ (ps ++ all))
nested before ps some all less = simp append_assoc at less

props_less : (test : Held → Bool) (before : List Prop) (hs : List Held) (after : List Prop)
    → IsLess (before ++ (props_in (filter test hs) ++ after)) (before ++ (props_in hs ++ after))
props_less test before [] after = itself (before ++ after)
props_less test before (h ∷ hs) after =
    elim (cases_Bool (test h)) [
      | inl here ↦ rw here
          (nested before (h.prop ∷ []) (props_in (filter test hs) ++ after) (props_in hs ++ after) (props_less test (before ++ h.prop ∷ []) hs after))
      | inr gone ↦
          rw gone (transitive (before ++ (props_in (filter test hs) ++ after)) (before ++ (props_in hs ++ after)) (before ++ (h.prop ∷ (props_in hs ++ after)))
          (props_less test before hs after) (without_some before (h.prop ∷ []) (props_in hs ++ after)))
    ]

any-mono : (m n : ℕ) → m ≤ n → bit (ltb 0 m) ≤ bit (ltb 0 n)
any-mono m n le =
    elim (cases_lt 0 m) [
      | inl some ↦ let more : ltb 0 n ≡ true = lt-ltb 0 n (omega arith) in rw (lt-ltb 0 m some, more) (omega arith)
      | inr none ↦ rw (le-ltb 0 m none) (omega arith)
    ]

-- ---- a part of each item

-- the others are parts of these, one of each, in order
abbrev pub AreParts : List Item → List Item → Type 0
AreParts [] [] = Unit {0}
AreParts [] (j ∷ js) = ⊥
AreParts (i ∷ is) [] = ⊥
AreParts (i ∷ is) (j ∷ js) = IsPart i j × AreParts is js

-- what says nothing of marks and properties
abbrev SaysNothing : {B : Type 0} → (Item → B) → Type 0
SaysNothing g = (i : Item) (hidden : Bool) (held : List Held) → g (record i { hidden = hidden; props = held }) ≡ g i

keeps : {B : Type 0} (g : Item → B) → SaysNothing g → (i j : Item) → IsPart i j → g j ≡ g i
keeps g same i j part = ap g part.same ∙ same i j.hidden j.props

map-parts : {B : Type 0} (g : Item → B) → SaysNothing g → (is js : List Item) → AreParts is js → map g js ≡ map g is
map-parts g same [] [] parts = refl
map-parts g same [] (j ∷ js) parts = absurd parts
map-parts g same (i ∷ is) [] parts = absurd parts
map-parts g same (i ∷ is) (j ∷ js) parts = ap (λ y. y ∷ map g js) (keeps g same i j parts.0) ∙ ap (λ ys. g i ∷ ys) (map-parts g same is js parts.1)

flat_map-parts : {B : Type 0} (g : Item → List B) → SaysNothing g → (is js : List Item) → AreParts is js → flat_map g js ≡ flat_map g is
flat_map-parts g same [] [] parts = refl
flat_map-parts g same [] (j ∷ js) parts = absurd parts
flat_map-parts g same (i ∷ is) [] parts = absurd parts
flat_map-parts g same (i ∷ is) (j ∷ js) parts = ap (λ ys. ys ++ flat_map g js) (keeps g same i j parts.0)
    ∙ ap (λ ys. g i ++ ys) (flat_map-parts g same is js parts.1)

any-parts : (g : Item → Bool) → SaysNothing g → (is js : List Item) → AreParts is js → list_any g js ≡ list_any g is
any-parts g same [] [] parts = refl
any-parts g same [] (j ∷ js) parts = absurd parts
any-parts g same (i ∷ is) [] parts = absurd parts
any-parts g same (i ∷ is) (j ∷ js) parts = ap (λ b. b || list_any g js) (keeps g same i j parts.0) ∙ ap (λ b. g i || b) (any-parts g same is js parts.1)

sum-parts : (g : Item → ℕ) → ((i j : Item) → IsPart i j → g j ≤ g i) → (is js : List Item) → AreParts is js → sum_by g js ≤ sum_by g is
sum-parts g less [] [] parts = omega arith
sum-parts g less [] (j ∷ js) parts = absurd parts
sum-parts g less (i ∷ is) [] parts = absurd parts
sum-parts g less (i ∷ is) (j ∷ js) parts = omega (arith, sum_by-cons g j js, sum_by-cons g i is, less i j parts.0, sum-parts g less is js parts.1)

all_parts : (Q P : Item → Type 0) → ((i j : Item) → IsPart i j → Q i → P j) → (is js : List Item) → AreParts is js → AllByRecursion Q is → AllByRecursion P js
all_parts Q P each [] [] parts all = tt
all_parts Q P each [] (j ∷ js) parts all = absurd parts
all_parts Q P each (i ∷ is) [] parts all = absurd parts
all_parts Q P each (i ∷ is) (j ∷ js) parts all = (each i j parts.0 all.0, all_parts Q P each is js parts.1 all.1)

picks-part : (i j : Item) → IsPart i j → length j.props ≤ length i.props
picks-part i j part = omega (arith, ap length part.stays.1, filter-le part.stays.0 i.props)

holders-part : (i j : Item) → IsPart i j → bit (has_props j) ≤ bit (has_props i)
holders-part i j part = any-mono (length j.props) (length i.props) (picks-part i j part)

behind : (before : List Prop) (is js : List Item) → AreParts is js → IsLess (before ++ flat_map props_of js) (before ++ flat_map props_of is)
behind before [] [] parts = itself (before ++ [])
behind before [] (j ∷ js) parts = absurd parts
behind before (i ∷ is) [] parts = absurd parts
behind before (i ∷ is) (j ∷ js) parts =
    let now = flat_map props_of js in
    let old = flat_map props_of is in
    let test = parts.0.stays.0 in
    let rest : IsLess (before ++ (props_of j ++ now)) (before ++ (props_of j ++ old)) = nested before (props_of j) now old
    (behind (before ++ props_of j) is js parts.1) in
    let here : IsLess (before ++ (props_of j ++ old)) (before ++ (props_of i ++ old)) =
    subst (λ (hs : List Held). IsLess (before ++ (props_in hs ++ old)) (before ++ (props_of i ++ old))) (sym parts.0.stays.1)
    (props_less test before i.props old)
    in
    transitive (before ++ (props_of j ++ now)) (before ++ (props_of j ++ old)) (before ++ (props_of i ++ old)) rest here

-- ---- the store

module _ (s : ItemStore) (js : List Item) (parts : AreParts s.items js) where
  ids : ids_of s.items ≡ ids_of js
  ids = sym (map-parts (λ (i : Item). i.id) (λ i hidden held. refl) s.items js parts)

  pairs-same : input_pairs js ≡ input_pairs s.items
  pairs-same = flat_map-parts (λ (i : Item). map (λ to. (i.id, to)) (inputs i.refs)) (λ i hidden held. refl) s.items js parts

  wide-same : is_wide js ≡ is_wide s.items
  unfolding is_wide
  wide-same = any-parts _ (λ i hidden held. refl) s.items js parts

  sum-kept : (g : Item → ℕ) → SaysNothing g → sum_by g js ≤ sum_by g s.items
  sum-kept g same = sum-parts g (λ i j part. omega (arith, keeps g same i j part)) s.items js parts

  counts-parts : HasCounts (counts_of s) (counts_of (record s { items = js }))
  unfolding counts_of
  counts-parts = record {
    items = omega (arith, sum-kept (λ (i : Item). (counts_of_item i).items) (λ i hidden held. refl));
    located = omega (arith, sum-kept (λ (i : Item). (counts_of_item i).located) (λ i hidden held. refl));
    wide = omega (arith, sum-kept (λ (i : Item). (counts_of_item i).wide) (λ i hidden held. refl));
    strings = omega (arith, sum-kept (λ (i : Item). (counts_of_item i).strings) (λ i hidden held. refl));
    links = omega (arith, sum-kept (λ (i : Item). (counts_of_item i).links) (λ i hidden held. refl));
    targets = omega (arith, sum-kept (λ (i : Item). (counts_of_item i).targets) (λ i hidden held. refl));
    holders = omega (arith, sum-parts (λ (i : Item). (counts_of_item i).holders) holders-part s.items js parts);
    picks = omega (arith, sum-parts (λ (i : Item). (counts_of_item i).picks) picks-part s.items js parts);
    idat = omega (arith, sum-kept (λ (i : Item). (counts_of_item i).idat) (λ i hidden held. refl));
    mdat = omega (arith, sum-kept (λ (i : Item). (counts_of_item i).mdat) (λ i hidden held. refl));
    groups = omega (arith, sum-kept (λ (i : Item). (counts_of_item i).groups) (λ i hidden held. refl));
    entities = omega (arith, sum-kept (λ (i : Item). (counts_of_item i).entities) (λ i hidden held. refl));
    tails = omega (arith, sum-kept (λ (i : Item). (counts_of_item i).tails) (λ i hidden held. refl));
  }

  tables : IsLess (flat_map props_of js) (flat_map props_of s.items)
  tables = behind [] s.items js parts

  kinds : length (table_of (record s { items = js })) ≤ length (table_of s)
  unfolding table_of
  kinds = tables.kinds

  bytes : short_props (table_of (record s { items = js })) ≤ short_props (table_of s)
  unfolding table_of
  bytes = tables.bytes

  counted : counted_meta (record s { items = js }) ≤ counted_meta s
  counted =
      let t : ItemStore = record s { items = js } in
      meta-mono (is_wide js) (is_wide s.items) (length (table_of t)) (length (table_of s)) (counts_of t) (counts_of s)
      (short_props (table_of t)) (short_props (table_of s)) (omega (arith, ap id_width wide-same)) kinds counts-parts bytes

  module _ (valid : Valid s) where
    items_good : AllByRecursion (IsGoodItem js) js
    items_good = all_parts (IsGoodItem s.items) (IsGoodItem js) (good_item s.items js ids) s.items js parts valid.items

    fours : AreFours (record s { items = js })
    fours = good_fours (record s { items = js }) items_good (valid_fours s valid).groups

    meta_less : meta_len (record s { items = js }) ≤ meta_len s
    meta_less =
        let before = (meta_is_counted s (valid_fours s valid) (inl valid.meta)).1 in
        let after = (meta_is_counted (record s { items = js }) fours (inr (omega (arith, counted, before, valid.meta)))).1 in
        omega (arith, before, after, counted)

    -- a valid store stays valid where its items become parts of themselves
    pub valid_of_parts : Valid (record s { items = js })
    unfolding body_sum
    valid_of_parts = record {
      brands = valid.brands;
      ids_rise = subst (RisesFrom ◌<◌ 0) ids valid.ids_rise;
      primary = subst (IsIn s.primary) ids valid.primary;
      items = items_good;
      groups_rise = valid.groups_rise;
      groups = all_same (IsGoodGroup s.items) (IsGoodGroup js) s.groups valid.groups (good_group s.items js ids);
      ends = λ walk endless. valid.ends walk (subst (λ pairs. IsEndless pairs walk) pairs-same endless);
      count = omega (arith, ap length ids, length-map s.items (λ (i : Item). i.id), length-map js (λ (i : Item). i.id), valid.count);
      kinds = omega (arith, kinds, valid.kinds);
      body = omega (arith, sum-kept (λ (i : Item). length i.bytes) (λ i hidden held. refl), valid.body);
      meta = omega (arith, meta_less, valid.meta);
    }

-- ---- changes that give each item, or the one at a place, a part of itself

whole : (i : Item) → IsPart i i
whole i = record { same = refl; stays = (λ h. true, sym (filter-all i.props)) }

all_whole : (is : List Item) → AreParts is is
all_whole [] = tt
all_whole (i ∷ is) = (whole i, all_whole is)

module _ (change : Item → Item) (part : (i : Item) → IsPart i (change i)) where
  parts-mapped : (is : List Item) → AreParts is (map change is)
  parts-mapped [] = tt
  parts-mapped (i ∷ is) = (part i, parts-mapped is)

  parts-changed : (k : ℕ) (is : List Item) → AreParts is (changed_at change k is)
  parts-changed k [] = tt
  parts-changed zero (i ∷ is) = (part i, all_whole is)
  parts-changed (suc k) (i ∷ is) = (whole i, parts-changed k is)

  pub valid_parts : (s : ItemStore) → Valid s → Valid (record s { items = map change s.items })
  valid_parts s valid = valid_of_parts s (map change s.items) (parts-mapped s.items) valid

  pub valid_part_at : (k : ℕ) (s : ItemStore) → Valid s → Valid (record s { items = changed_at change k s.items })
  valid_part_at k s valid = valid_of_parts s (changed_at change k s.items) (parts-changed k s.items) valid
