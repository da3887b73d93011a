-- What is read of a file is the store that it denotes within the limits of reading, and a file has no fault exactly where
-- it denotes one.
use Rattle.std.proofs.Common.{◌≡◌, ℕ, ◌≤◌, ◌<◌, List, [], ◌∷◌, length, Some, None, Result, Ok, Err, refl, ap, subst, ◌∙◌}
use Rattle.std.specs.Prelude.{◌↔◌}
use Rattle.hf_base.specs.Members.{IsIn, Rises, RisesFrom}
use Rattle.hf_base.specs.Number.{IsBytes}
use Rattle.hf_base.specs.declared.fault.ReadRefusal.{ReadRefusal}
use Rattle.hf_base.specs.declared.limits.TheConstants.{FILE, LINKS}
use Rattle.hf_links.specs.Grpl.{Group}
use Rattle.hf_order.proofs.Members.{in_all}
use Rattle.hf_store.specs.Store.{Item, ItemStore, ids_of}
use Rattle.hf_store.specs.LimitFaults.{limits_fault}
use Rattle.hf_store.specs.Valid.{IsGoodRef, IsGoodItem, Valid}
use Rattle.hf_read.specs.Denotes.{Denotes, IsWithin, DenotesWithin}
use Rattle.hf_read.specs.Faults.{derived_fault}
use Rattle.hf_read.specs.Reading.{idat_of, store_at, checked, reading, fault_in, fault_of}
use Rattle.hf_read.specs.Tables.{item_ids, infos_by_id}
use Rattle.hf_read.proofs.FirstFaults.{fine}
use Rattle.hf_read.proofs.ItemLaws.{ids_zip, zip_items, are_placed}
use Rattle.hf_read.proofs.ReadLaws.{AreTables, IsRead, is_read, read_again}
use Rattle.hf_read.proofs.StoreFaults.{KeepsLimits, derived_fine, limits_fine}
use Rattle.hf_read.proofs.StoreLaws.{has_mif1_of, read_items, read_groups, lead_to_items, is_valid}

-- ---- what was read is denoted

read_denotes : (F : List ℕ) (s : ItemStore) → length F ≤ FILE → IsRead F s → limits_fault s ≡ fine → Denotes F s
read_denotes F s small r kept = record {
  top = r.top;
  boxes = r.boxes;
  ftyp = r.ftyp;
  meta = r.meta;
  level = r.level;
  full = r.full;
  children = r.children;
  inner = r.inner;
  parts = r.parts;
  are_parts = r.are_parts;
  brands = r.brands;
  picture = r.picture;
  primary = r.primary;
  tables = r.tables;
  infos = r.are_tables.infos.0;
  locs = r.are_tables.locs;
  links = r.are_tables.links;
  iprp = r.are_tables.iprp;
  all_groups = r.are_tables.groups;
  needs = r.are_tables.needs;
  picks = r.are_tables.picks;
  items = read_items F s r;
  groups = read_groups F s r;
  valid = is_valid F s small r kept;
}

pub read_within : (F : List ℕ) (s : ItemStore) → length F ≤ FILE → IsRead F s → limits_fault s ≡ fine → DenotesWithin F s
unfolding read_denotes
read_within F s small r kept =
    let d = read_denotes F s small r kept in
    let within : IsWithin F s d = record {
      top = r.few_top;
      children = r.few_children;
      infos = r.are_tables.infos;
      locs = r.are_tables.few_locs;
      links = r.are_tables.few_links;
      iprp = r.are_tables.few_props;
      groups = r.are_tables.few_groups;
      leaves = r.placed.few;
    } in
    (d, within)

-- ---- what is denoted is read

rises_from : (low : ℕ) (ns : List ℕ) → RisesFrom ◌<◌ low ns → Rises ◌<◌ ns
rises_from low [] up = tt
rises_from low (n ∷ ns) up = up.1

store_is : (F : List ℕ) (s : ItemStore) (d : Denotes F s) → s ≡ store_at F (idat_of d.parts) s.brands s.primary d.tables
unfolding store_at
store_is F s d =
    let items = zip_items F (idat_of d.parts) d.tables (infos_by_id d.tables.infos) s.items d.items in
    let made : List Item → List Group → ItemStore = λ i g. record { brands = s.brands; primary = s.primary; items = i; groups = g } in
    ap (λ (i : List Item). made i s.groups) items ∙ ap (made _) d.groups

ids_are : (F : List ℕ) (s : ItemStore) (d : Denotes F s) → ids_of s.items ≡ item_ids d.tables.infos
ids_are F s d = ids_zip F (idat_of d.parts) d.tables (infos_by_id d.tables.infos) s.items d.items

good_item : (s : ItemStore) → Valid s → (i : Item) → IsIn i s.items → IsGoodItem s.items i
good_item s valid i h = in_all (IsGoodItem s.items) s.items valid.items i h

pub keeps_limits : (s : ItemStore) → Valid s → KeepsLimits s
keeps_limits s valid = record {
  count = valid.count;
  links = λ i r h k. (in_all (IsGoodRef s.items) i.refs (good_item s valid i h).refs r k).links;
  meta = valid.meta;
}

pub derives : (s : ItemStore) → Valid s → derived_fault s.items ≡ fine
derives s valid = derived_fine s.items (rises_from 0 (ids_of s.items) valid.ids_rise) (lead_to_items LINKS s.items (good_item s valid)) (λ i h. (good_item s valid i h).fits) valid.ends

tables_are : (F : List ℕ) (s : ItemStore) (d : Denotes F s) → IsWithin F s d → AreTables d.parts s.primary d.tables
tables_are F s d w = record {
  infos = w.infos;
  there = subst (λ (l : List ℕ). IsIn s.primary l) (ids_are F s d) d.valid.primary;
  locs = d.locs;
  few_locs = w.locs;
  links = d.links;
  few_links = w.links;
  needs = d.needs;
  iprp = d.iprp;
  few_props = w.iprp;
  picks = d.picks;
  groups = d.all_groups;
  few_groups = w.groups;
}

pub within_read : (F : List ℕ) (s : ItemStore) → DenotesWithin F s → IsRead F s
within_read F s (d, w) = record {
  top = d.top;
  boxes = d.boxes;
  few_top = w.top;
  ftyp = d.ftyp;
  meta = d.meta;
  level = d.level;
  brands = d.brands;
  mif1 = has_mif1_of s.brands d.valid.brands.mif1;
  children = d.children;
  full = d.full;
  inner = d.inner;
  few_children = w.children;
  parts = d.parts;
  are_parts = d.are_parts;
  picture = d.picture;
  primary = d.primary;
  tables = d.tables;
  are_tables = tables_are F s d w;
  placed = are_placed F (idat_of d.parts) d.tables s.items d.items w.leaves d.valid.body;
  is = store_is F s d;
  derived = derives s d.valid;
}

-- ---- the laws

pub reading_denotes : (F : List ℕ) (s : ItemStore) → IsBytes F → length F ≤ FILE → DenotesWithin F s ↔ (reading F ≡ Ok s)
reading_denotes F s fits small = (
  (λ d. read_again F s (within_read F s d) (limits_fine s (keeps_limits s d.0.valid))),
  (λ h. let r = is_read F s fits h in read_within F s small r.0 r.1),
)

-- the checks pass a valid store, so that a file is computed up to them: the limits take longest
pub read_valid : (F : List ℕ) (s : ItemStore) → Valid s → reading F ≡ checked s → reading F ≡ Ok s
unfolding checked
read_valid F s valid h = h ∙ rw (derives s valid, limits_fine s (keeps_limits s valid)) refl

no_fault_read : (r : Result ItemStore ReadRefusal) → fault_in r ≡ None → (s : ItemStore) × (r ≡ Ok s)
no_fault_read (Ok s) h = (s, refl)
no_fault_read (Err e) h = absurd cc

pub no_fault_denotes : (F : List ℕ) → IsBytes F → length F ≤ FILE → (fault_of F ≡ None) ↔ ((s : ItemStore) × DenotesWithin F s)
unfolding fault_of
no_fault_denotes F fits small = (
  (λ h. let p = no_fault_read (reading F) h in (p.0, (reading_denotes F p.0 fits small).1 p.1)),
  (λ p. ap fault_in ((reading_denotes F p.0 fits small).0 p.1)),
)

fault_there : (r : Result ItemStore ReadRefusal) (e : ReadRefusal) → fault_in r ≡ Some e → r ≡ Err e
fault_there (Ok s) e h = absurd cc
fault_there (Err f) e h = let same : f ≡ e = cc in ap (λ (x : ReadRefusal). Err x) same

pub fault_is_read : (F : List ℕ) (fault : ReadRefusal) → (fault_of F ≡ Some fault) ↔ (reading F ≡ Err fault)
unfolding fault_of
fault_is_read F fault = (fault_there (reading F) fault, (λ h. ap fault_in h))
