-- The store of a file that was read is valid.
use Rattle.std.proofs.Common.{◌≡◌, ℕ, ◌+◌, ◌≤◌, ◌<◌, true, List, [], ◌∷◌, ◌++◌, length, length-append, take, map, Option, refl, sym, ap, subst, ◌∙◌, arith, inl, inr, ◌⊎◌}
use Rattle.std.specs.Prelude.{IsTrue, min}
use Rattle.std.specs.List.{AllZip, sum_by}
use Rattle.std.specs.Str.{bytes_eq}
use Rattle.std.proofs.lemmas.Bool.{cases_Bool, or_cases}
use Rattle.std.proofs.lemmas.List.{length-take}
use Rattle.std.proofs.lemmas.List.Sums.{sum_by-cons}
use Rattle.std.proofs.lemmas.Slice.Eq.{bytes_eq-Decides}
use Rattle.hf_base.specs.Members.{IsIn, RisesFrom, Rises}
use Rattle.hf_base.specs.Number.{num}
use Rattle.hf_base.specs.declared.four.FourCc.{FourCc}
use Rattle.hf_base.specs.declared.kinds.TheConstants.{MIF1}
use Rattle.hf_base.specs.declared.limits.TheConstants as limits
use Rattle.hf_base.specs.declared.loc.RefBox.{RefBox}
use Rattle.hf_box.specs.Boxes.{BoxAt, is_nil, IsBoxes}
use Rattle.hf_box.specs.Literals.{four}
use Rattle.hf_box.specs.Walk.{is_kind}
use Rattle.hf_box.proofs.SameKinds.{same_kind, is_same_kind}
use Rattle.hf_box.proofs.Spelled.{length_spelling}
use Rattle.hf_derived.specs.Derived.{fits}
use Rattle.hf_head.specs.Ftyp.{Brands}
use Rattle.hf_info.specs.Infe.{Info, IsGoodInfo}
use Rattle.hf_info.proofs.IinfLemmas.{iinf_good}
use Rattle.hf_links.specs.Grpl.{Group}
use Rattle.hf_order.proofs.Members.{in_all, all_from, from_map}
use Rattle.hf_prop.specs.declared.held.Held.{Held}
use Rattle.hf_store.specs.Counts.{targets_of}
use Rattle.hf_store.specs.Derived.{inputs}
use Rattle.hf_store.specs.LimitFaults.{limits_fault}
use Rattle.hf_store.specs.References.{IsKept}
use Rattle.hf_store.specs.Store.{Item, ItemStore, ids_of}
use Rattle.hf_store.specs.declared.item.RefList.{RefList}
use Rattle.hf_store.specs.Table.{table_of}
use Rattle.hf_store.specs.Valid.{HasBrand, AreGoodBrands, IsGoodRefWithin, IsGoodItemWithin, IsGoodGroup, ValidWithin, Valid, IsSound, meta_len}
use Rattle.hf_base.specs.Entries.{has_id}
use Rattle.hf_read.specs.Denotes.{IsItemOf}
use Rattle.hf_read.specs.Kept.{left_of, kept_refs, kept_props, kept_groups}
use Rattle.hf_read.specs.Reading.{idat_of, item_of, item_at, store_at}
use Rattle.hf_read.specs.Tables.{Tables, AreLinks, infos_by_id, item_ids}
use Rattle.hf_read.specs.TopLevel.{has_brand, has_mif1}
use Rattle.hf_read.proofs.FirstFaults.{fine}
use Rattle.hf_read.proofs.ItemLaws.{ids_zip, items_zip, item_entry, body_is, placed_each}
use Rattle.hf_read.proofs.KeptGroups.{groups_rise, left_group, some_left, left_items}
use Rattle.hf_read.proofs.KeptProps.{few_props, held_in, held_kind, table_few}
use Rattle.hf_read.proofs.KeptRefs.{kind_box, list_kind, refs_are_kept, joined_passes}
use Rattle.hf_read.proofs.ReadLaws.{IsRead}
use Rattle.hf_read.proofs.RecordParts.{link_kinds, IsGoodGroup as IsReadGroup, good_groups, distinct_groups, IsGoodIprp, good_iprp}
use Rattle.hf_read.proofs.RisingLaws.{from_rising, rising_rises, above_zero}
use Rattle.hf_read.proofs.StoreFaults.{each_fits, LeadToItems, walks_end, limits_kept}

-- ---- brands

brand_has : (brand : FourCc) (bytes : List ℕ) → has_brand brand.0 bytes ≡ true → HasBrand brand bytes
unfolding has_brand
brand_has brand [] h = absurd cc
brand_has brand (a ∷ []) h = absurd cc
brand_has brand (a ∷ b ∷ []) h = absurd cc
brand_has brand (a ∷ b ∷ c ∷ []) h = absurd cc
brand_has brand (a ∷ b ∷ c ∷ d ∷ rest) h = elim (or_cases (bytes_eq (a ∷ b ∷ c ∷ d ∷ []) brand.0) (has_brand brand.0 rest) h) [
  | inl t ↦ inl (sym ((bytes_eq-Decides (a ∷ b ∷ c ∷ d ∷ []) brand.0).0 t))
  | inr t ↦ inr (brand_has brand rest t)
]

has_brand_of : (brand : FourCc) (bytes : List ℕ) → HasBrand brand bytes → has_brand brand.0 bytes ≡ true
unfolding has_brand
has_brand_of brand [] h = absurd h
has_brand_of brand (a ∷ []) h = absurd h
has_brand_of brand (a ∷ b ∷ []) h = absurd h
has_brand_of brand (a ∷ b ∷ c ∷ []) h = absurd h
has_brand_of brand (a ∷ b ∷ c ∷ d ∷ rest) (inl e) = let t = (bytes_eq-Decides (a ∷ b ∷ c ∷ d ∷ []) brand.0).1 (sym e) in rw t refl
has_brand_of brand (a ∷ b ∷ c ∷ d ∷ rest) (inr h) =
    let t = has_brand_of brand rest h in
    elim (cases_Bool (bytes_eq (a ∷ b ∷ c ∷ d ∷ []) brand.0)) [ inl x ↦ rw x refl | inr x ↦ rw (x, t) refl ]

mif1_of : (b : Brands) → has_mif1 b ≡ true → (b.major ≡ four "mif1") ⊎ HasBrand (four "mif1") b.compatible
mif1_of b h = elim (or_cases (is_kind b.major MIF1) (has_brand MIF1.0 b.compatible) h) [
  | inl t ↦ inl (is_same_kind b.major MIF1 t)
  | inr t ↦ inr (brand_has MIF1 b.compatible t)
]

pub has_mif1_of : (b : Brands) → (b.major ≡ four "mif1") ⊎ HasBrand (four "mif1") b.compatible → has_mif1 b ≡ true
has_mif1_of b (inl e) = let t = same_kind b.major MIF1 e in rw t refl
has_mif1_of b (inr h) = let t = has_brand_of MIF1 b.compatible h in elim (cases_Bool (is_kind b.major MIF1)) [ inl x ↦ rw x refl | inr x ↦ rw (x, t) refl ]

-- the body of the first box is no longer than the file
first_body : (F : List ℕ) (boxes : List BoxAt) (first : BoxAt) → IsBoxes F 0 true boxes → take 1 boxes ≡ first ∷ [] → length first.body ≤ length F
first_body F [] first are h = absurd cc
first_body F (b ∷ bs) first (text, rest, whole, place, four, spelled, more) h =
    let is : b ≡ first = cc in
    let len = length_spelling (is_nil bs) b text spelled four in
    let sum : length F ≡ length text + length rest = ap length whole ∙ length-append text rest in
    subst (λ (x : BoxAt). length x.body ≤ length F) is (omega (arith, len.0))

good_brands : (F : List ℕ) (s : ItemStore) → length F ≤ limits.FILE → IsRead F s → AreGoodBrands s.brands
good_brands F s small h =
    let len = first_body F h.top h.ftyp h.boxes h.level.first in
    let text : length h.ftyp.body ≡ length s.brands.major.0 + (length (num s.brands.minor 4) + length s.brands.compatible) =
    ap length h.brands.3 ∙ length-append s.brands.major.0 (num s.brands.minor 4 ++ s.brands.compatible) ∙ ap (λ (n : ℕ). length s.brands.major.0 + n) (length-append (num s.brands.minor 4) s.brands.compatible) in
    record { major = h.brands.0; minor = h.brands.1; fours = h.brands.2; within = omega (arith, len, text, small); mif1 = mif1_of s.brands h.mif1 }

-- ---- the parts of the store

items_at : (F : List ℕ) (idat : Option (List ℕ)) (brands : Brands) (primary : ℕ) (t : Tables) → (store_at F idat brands primary t).items ≡ map (item_at F idat t) (infos_by_id t.infos)
unfolding store_at
items_at F idat brands primary t = refl

groups_at : (F : List ℕ) (idat : Option (List ℕ)) (brands : Brands) (primary : ℕ) (t : Tables) → (store_at F idat brands primary t).groups ≡ kept_groups (item_ids t.infos) t.groups
unfolding store_at
groups_at F idat brands primary t = refl

pub read_items : (F : List ℕ) (s : ItemStore) (r : IsRead F s) → AllZip (IsItemOf F (idat_of r.parts) r.tables) (infos_by_id r.tables.infos) s.items
read_items F s r =
    let idat = idat_of r.parts in
    let t = r.tables in
    let same : s.items ≡ map (item_at F idat t) (infos_by_id t.infos) = ap (λ (x : ItemStore). x.items) r.is ∙ items_at F idat s.brands s.primary t in
    subst (λ (l : List Item). AllZip (IsItemOf F idat t) (infos_by_id t.infos) l) (sym same) (items_zip F idat t (infos_by_id t.infos) (placed_each F idat t r.placed))

pub read_groups : (F : List ℕ) (s : ItemStore) (r : IsRead F s) → s.groups ≡ kept_groups (item_ids r.tables.infos) r.tables.groups
read_groups F s r = ap (λ (x : ItemStore). x.groups) r.is ∙ groups_at F (idat_of r.parts) s.brands s.primary r.tables

read_ids : (F : List ℕ) (s : ItemStore) (r : IsRead F s) → ids_of s.items ≡ item_ids r.tables.infos
read_ids F s r = ids_zip F (idat_of r.parts) r.tables (infos_by_id r.tables.infos) s.items (read_items F s r)

-- ---- ids

good_info : (F : List ℕ) (s : ItemStore) (r : IsRead F s) (info : Info) → IsIn info (infos_by_id r.tables.infos) → IsGoodInfo info
good_info F s r info h = in_all IsGoodInfo r.tables.infos (iinf_good r.parts.iinf r.tables.infos r.are_tables.infos.0) info (from_rising (λ (i : Info). i.id) r.tables.infos info h)

pub ids_rise : (F : List ℕ) (s : ItemStore) (r : IsRead F s) → Rises ◌<◌ (ids_of s.items)
ids_rise F s r = subst (λ (l : List ℕ). Rises ◌<◌ l) (sym (read_ids F s r)) (rising_rises (λ (i : Info). i.id) r.tables.infos r.are_tables.infos.0.distinct)

ids_some : (F : List ℕ) (s : ItemStore) (r : IsRead F s) → RisesFrom ◌<◌ 0 (ids_of s.items)
ids_some F s r = above_zero (ids_of s.items) (ids_rise F s r) (λ n h.
    let m = from_map (λ (i : Info). i.id) (infos_by_id r.tables.infos) n (subst (λ (l : List ℕ). IsIn n l) (read_ids F s r) h) in
    subst (λ (k : ℕ). 0 < k) m.2 (good_info F s r m.0 m.1).some)

-- ---- an item

good_ref : (most : ℕ) (all : List Item) (o : Option BoxAt) (links : List RefBox) (ids : List ℕ) (from : ℕ) (r : RefList) → AreLinks o links → ids_of all ≡ ids
    → IsIn r (kept_refs ids links from) → length r.to ≤ most → IsGoodRefWithin most all r
good_ref most all o links ids from r are same h few =
    let p = list_kind ids links from r h in
    let b = kind_box from links p.0 p.1 in
    let kind : b.0.kind ≡ r.kind = b.2 ∙ ap (λ (x : RefList). x.kind) p.2 in
    let kept : IsKept (λ to. has_id to ids) links from r = in_all (IsKept (λ to. has_id to ids) links from) (kept_refs ids links from) (refs_are_kept ids links from).each r h in
    record {
      kind = ap (λ (k : FourCc). length k.0) (sym kind) ∙ link_kinds o links are b.0 b.1;
      not_iloc = kept.not_iloc;
      some = kept.some;
      links = few;
      to = all_from (λ id. IsIn id (ids_of all)) r.to (λ x k.
          let among : IsIn x ids = joined_passes ids r.kind from links x (subst (λ (l : List ℕ). IsIn x l) kept.to k) in
          subst (λ (l : List ℕ). IsIn x l) (sym same) among);
    }

good_item : (most : ℕ) (all : List Item) (o : Option BoxAt) (t : Tables) (info : Info) (bytes : List ℕ) → AreLinks o t.links
    → IsGoodIprp t.iprp → ids_of all ≡ item_ids t.infos → IsGoodInfo info → ((r : RefList) → IsIn r (item_of t info bytes).refs → length r.to ≤ most)
    → IsTrue (fits info.kind bytes (length (inputs (item_of t info bytes).refs))) → IsGoodItemWithin most all (item_of t info bytes)
good_item most all o t info bytes links iprp same good few fit =
    let ids = item_ids t.infos in
    record {
      id = good.id;
      kind = good.kind;
      name = good.name;
      content = good.content;
      encoding = good.encoding;
      uri = good.uri;
      only_mime = good.only_mime;
      only_uri = good.only_uri;
      props = few_props t.iprp info.id iprp;
      prop_kinds = all_from (λ (h : Held). length h.prop.kind.0 ≡ 4) (kept_props t.iprp info.id) (λ h k. held_kind t.iprp info.id h iprp k);
      refs = all_from (IsGoodRefWithin most all) (kept_refs ids t.links info.id) (λ r h. good_ref most all o t.links ids info.id r links same h (few r h));
      kinds_rise = (refs_are_kept ids t.links info.id).rise;
      fits = fit;
    }

-- no reference list of these items has more ids
abbrev pub AreLinksWithin : ℕ → List Item → Type 0
AreLinksWithin most items = (i : Item) (r : RefList) → IsIn i items → IsIn r i.refs → length r.to ≤ most

each_good : (most : ℕ) (F : List ℕ) (s : ItemStore) (r : IsRead F s) → AreLinksWithin most s.items → (i : Item) → IsIn i s.items
    → IsGoodItemWithin most s.items i
each_good most F s r links i h =
    let t = r.tables in
    let e = item_entry F (idat_of r.parts) t (infos_by_id t.infos) s.items (read_items F s r) i h in
    let is : i ≡ item_of t e.0 e.2.placed.bytes = e.2.is in
    let few = subst (λ (k : Item). (q : RefList) → IsIn q k.refs → length q.to ≤ most) is (λ q k. links i q h k) in
    let fit = subst (λ (k : Item). IsTrue (fits k.kind k.bytes (length (inputs k.refs)))) is (each_fits s.items r.derived i h) in
    let iprp = good_iprp r.parts.iprp t.iprp r.are_tables.iprp in
    let good = good_item most s.items r.parts.iref t e.0 e.2.placed.bytes r.are_tables.links iprp (read_ids F s r) (good_info F s r e.0 e.1) few fit in
    subst (λ (k : Item). IsGoodItemWithin most s.items k) (sym is) good

pub lead_to_items : (most : ℕ) (items : List Item) → ((i : Item) → IsIn i items → IsGoodItemWithin most items i) → LeadToItems items
lead_to_items most items good i r x h k among =
    let list = in_all (IsGoodRefWithin most items) i.refs (good i h).refs r k in
    in_all (λ id. IsIn id (ids_of items)) r.to list.to x among

-- ---- a group

group_is : (all : List Item) (ids : List ℕ) (whole : Group) → ids_of all ≡ ids → IsReadGroup whole → 0 < length (left_of ids whole).entities → IsGoodGroup all (left_of ids whole)
group_is all ids whole same good some = record {
  kind = good.kind;
  version = good.version;
  flags = good.flags;
  id = good.id;
  some = some;
  entities = all_from (λ id. IsIn id (ids_of all)) (left_of ids whole).entities (λ x k. subst (λ (l : List ℕ). IsIn x l) (sym same) (left_items ids whole x k));
}

good_group : (F : List ℕ) (s : ItemStore) (r : IsRead F s) (g : Group) → IsIn g s.groups → IsGoodGroup s.items g
good_group F s r g h =
    let ids = item_ids r.tables.infos in
    let l = left_group ids r.tables.groups g (subst (λ (gs : List Group). IsIn g gs) (read_groups F s r) h) in
    let good = group_is s.items ids l.0 (read_ids F s r) (good_groups r.parts.grpl r.tables.groups r.are_tables.groups l.0 l.1) (some_left ids l.0 l.3) in
    subst (λ (x : Group). IsGoodGroup s.items x) l.2 good

-- ---- distinct properties

few_kinds : (F : List ℕ) (s : ItemStore) (r : IsRead F s) → length (table_of s) ≤ 32767
few_kinds F s r =
    let t = r.tables in
    let all = take 32767 t.iprp.props in
    let le = table_few s all (λ i h k among.
    let e = item_entry F (idat_of r.parts) t (infos_by_id t.infos) s.items (read_items F s r) i k in
    let held : IsIn h (kept_props t.iprp e.0.id) = subst (λ (x : Item). IsIn h x.props) e.2.is among in
    held_in t.iprp e.0.id h (good_iprp r.parts.iprp t.iprp r.are_tables.iprp) held) in
    let len = length-take 32767 t.iprp.props in
    omega (arith, le, len, min_le 32767 (length t.iprp.props))
  where
    min_le : (a b : ℕ) → min a b ≤ a
    min_le a b = grind arith

-- ---- the whole

-- within these limits, where it keeps them
valid_within : (most_items most_links most_bytes : ℕ) (F : List ℕ) (s : ItemStore) → length F ≤ limits.FILE → IsRead F s
    → length s.items ≤ most_items → AreLinksWithin most_links s.items → meta_len s ≤ most_bytes → ValidWithin most_items most_links most_bytes s
valid_within most_items most_links most_bytes F s small r count links meta =
    let up = groups_rise (item_ids r.tables.infos) r.tables.groups (distinct_groups r.parts.grpl r.tables.groups r.are_tables.groups) in
    let rise : Rises ◌<◌ (map (λ (g : Group). g.id) s.groups) =
    subst (λ (l : List Group). Rises ◌<◌ (map (λ (g : Group). g.id) l)) (sym (read_groups F s r)) up in
    let good = each_good most_links F s r links in
    record {
      brands = good_brands F s small r;
      ids_rise = ids_some F s r;
      primary = subst (λ (l : List ℕ). IsIn s.primary l) (sym (read_ids F s r)) r.are_tables.there;
      items = all_from (IsGoodItemWithin most_links s.items) s.items good;
      groups_rise = rise;
      groups = all_from (IsGoodGroup s.items) s.groups (good_group F s r);
      ends = walks_end s.items (ids_rise F s r) (lead_to_items most_links s.items good) r.derived;
      count = count;
      kinds = few_kinds F s r;
      body = subst (λ (n : ℕ). n ≤ limits.BODY) (sym (body_is F (idat_of r.parts) r.tables s.items (read_items F s r))) r.placed.small;
      meta = meta;
    }

pub is_valid : (F : List ℕ) (s : ItemStore) → length F ≤ limits.FILE → IsRead F s → limits_fault s ≡ fine → Valid s
is_valid F s small r clean =
    let kept = limits_kept s clean in
    valid_within limits.ITEMS limits.LINKS limits.META F s small r kept.count kept.links kept.meta

-- ---- without limits

in_sum : {A : Type 0} (f : A → ℕ) (xs : List A) (x : A) → IsIn x xs → f x ≤ sum_by f xs
in_sum f [] x h = absurd h
in_sum f (y ∷ ys) x (inl e) = omega (arith, ap f e, sum_by-cons f y ys)
in_sum f (y ∷ ys) x (inr h) = omega (arith, in_sum f ys x h, sum_by-cons f y ys)

-- the ids of all reference lists, which no list has more than
links_sum : List Item → ℕ
links_sum items = sum_by (λ (i : Item). targets_of i.refs) items

within_sum : (items : List Item) → AreLinksWithin (links_sum items) items
unfolding links_sum
within_sum items i r h k = omega (arith, in_sum (λ (q : RefList). length q.to) i.refs r k, in_sum (λ (j : Item). targets_of j.refs) items i h)

pub is_sound : (F : List ℕ) (s : ItemStore) → length F ≤ limits.FILE → IsRead F s → IsSound s
is_sound F s small r =
    let items = length s.items in
    let links = links_sum s.items in
    let bytes = meta_len s in
    (items, links, bytes, valid_within items links bytes F s small r (omega arith) (within_sum s.items) (omega arith))
