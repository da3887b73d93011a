-- A file, read from left to right: its store, or the first fault, in the order in which faults are told. That order is
-- this project's own rule.
use Rattle.std.specs.Prelude.{ℕ, true, List, [], map, unwrap_or, Option, Some, None, option_map, Result, Ok, Err}
use Rattle.hf_base.specs.BytesOf.{bytes_of}
use Rattle.hf_base.specs.LocationFaults.{locations_fault}
use Rattle.hf_base.specs.Reading.{◌>>=◌}
use Rattle.hf_base.specs.declared.fault.ReadRefusal.{ReadRefusal}
use Rattle.hf_base.specs.declared.loc.RefBox.{RefBox}
use Rattle.hf_box.specs.Boxes.{BoxAt}
use Rattle.hf_box.specs.Framing.{frames}
use Rattle.hf_box.specs.Walk.{children_at}
use Rattle.hf_head.specs.Ftyp.{Brands}
use Rattle.hf_head.specs.Hdlr.{hdlr_at}
use Rattle.hf_head.specs.Pitm.{pitm_at}
use Rattle.hf_info.specs.Infe.{Info}
use Rattle.hf_info.specs.Iinf.{iinf_at}
use Rattle.hf_prop.specs.declared.iprp.Iprp.{Iprp}
use Rattle.hf_store.specs.Store.{Item, ItemStore}
use Rattle.hf_store.specs.LimitFaults.{limits_fault}
use Rattle.hf_read.specs.Faults.{no_primary_fault, dangling_need_fault, bad_property_fault, derived_fault}
use Rattle.hf_read.specs.Kept.{kept_refs, kept_props, kept_groups}
use Rattle.hf_read.specs.Tables.{Tables, locs_in, links_in, iprp_in, groups_in, infos_by_id, item_ids, located_in, items_in}
use Rattle.hf_read.specs.TopLevel.{Parts, top_of, parts_of}

-- ---- the store of what was read

-- the body of `idat`, if there is one
abbrev pub idat_of : Parts → Option (List ℕ)
idat_of parts = option_map (λ (b : BoxAt). b.body) parts.idat

-- the item of an entry of `iinf`, with these bytes
abbrev pub item_of : Tables → Info → List ℕ → Item
item_of t info bytes = record {
  id = info.id;
  kind = info.kind;
  hidden = info.hidden;
  name = info.name;
  content = info.content;
  encoding = info.encoding;
  uri = info.uri;
  bytes = bytes;
  props = kept_props t.iprp info.id;
  refs = kept_refs (item_ids t.infos) t.links info.id;
}

-- with the bytes at its places, which are there where the places have no fault
abbrev pub item_at : List ℕ → Option (List ℕ) → Tables → Info → Item
item_at F idat t info = item_of t info (unwrap_or (bytes_of F idat (items_in t) (located_in t info)) [])

-- the items by rising id, and the groups that are kept
unfoldable pub store_at : List ℕ → Option (List ℕ) → Brands → ℕ → Tables → ItemStore
store_at F idat brands primary t = record {
  brands = brands;
  primary = primary;
  items = map (item_at F idat t) (infos_by_id t.infos);
  groups = kept_groups (item_ids t.infos) t.groups;
}

-- ---- the parts, in the order in which faults are told

-- the tables of `meta`
unfoldable pub tables_at : ℕ → Parts → Result Tables ReadRefusal
tables_at primary parts = do
  infos ← iinf_at parts.iinf
  there ← no_primary_fault (item_ids infos) primary
  locs ← locs_in parts.iloc
  links ← links_in parts.iref
  needs ← dangling_need_fault (item_ids infos) links
  iprp ← iprp_in parts.iprp
  picks ← bad_property_fault (item_ids infos) iprp
  groups ← groups_in parts.grpl
  Ok (record { infos = infos; locs = locs; links = links; iprp = iprp; groups = groups })

-- references that name all items that these need, and properties that are there for all associations of these
unfoldable pub links_for : List ℕ → Option BoxAt → Result (List RefBox) ReadRefusal
links_for ids iref = do
  links ← links_in iref
  needs ← dangling_need_fault ids links
  Ok links

unfoldable pub props_for : List ℕ → Option BoxAt → Result Iprp ReadRefusal
props_for ids iprp = do
  props ← iprp_in iprp
  picks ← bad_property_fault ids props
  Ok props

-- the tables with these entries on items, whose ids rise
unfoldable pub tables_of : List Info → List ℕ → Parts → Result Tables ReadRefusal
tables_of infos ids parts = do
  locs ← locs_in parts.iloc
  links ← links_for ids parts.iref
  iprp ← props_for ids parts.iprp
  groups ← groups_in parts.grpl
  Ok (record { infos = infos; locs = locs; links = links; iprp = iprp; groups = groups })

-- a store, unless its derived items or its limits have a fault
unfoldable pub checked : ItemStore → Result ItemStore ReadRefusal
checked s = do
  derived ← derived_fault s.items
  kept ← limits_fault s
  Ok s

-- the store of a file with these brands and these boxes in its `meta`
unfoldable pub reading_parts : List ℕ → Brands → Parts → Result ItemStore ReadRefusal
reading_parts F brands parts = do
  picture ← hdlr_at parts.hdlr.at parts.hdlr.body
  primary ← pitm_at parts.pitm.at parts.pitm.body
  tables ← tables_at primary parts
  placed ← locations_fault F (idat_of parts) (items_in tables)
  checked (store_at F (idat_of parts) brands primary tables)

-- the store of a file
unfoldable pub reading : List ℕ → Result ItemStore ReadRefusal
reading F = do
  boxes ← frames true 0 F
  top ← top_of boxes
  children ← children_at top.1
  parts ← parts_of children
  reading_parts F top.0 parts

abbrev pub fault_in : {A : Type 0} → Result A ReadRefusal → Option ReadRefusal
fault_in (Ok x) = None
fault_in (Err e) = Some e

-- why a file is refused, or nothing
unfoldable pub fault_of : List ℕ → Option ReadRefusal
fault_of F = fault_in (reading F)
