-- Which store a file denotes.
use Rattle.std.specs.Prelude.{◌≡◌, ◌+◌, ◌≤◌, ℕ, true, false, List, length, map, drop, sum, Option, Some, None, IsTrue}
use Rattle.std.specs.List.{AllByRecursion, AllZip}
use Rattle.hf_base.specs.Counts.{leaves_of}
use Rattle.hf_base.specs.Members.{IsIn}
use Rattle.hf_base.specs.Placed.{IsPlaced}
use Rattle.hf_base.specs.declared.limits.TheConstants.{BOXES, ROWS, PIECES}
use Rattle.hf_base.specs.declared.loc.RefBox.{RefBox}
use Rattle.hf_box.specs.Boxes.{BoxAt, IsBoxes}
use Rattle.hf_head.specs.Ftyp.{IsFtyp}
use Rattle.hf_head.specs.Hdlr.{IsHdlr}
use Rattle.hf_head.specs.Pitm.{IsPitm}
use Rattle.hf_info.specs.Infe.{Info}
use Rattle.hf_info.specs.Iinf.{IsIinf, IsIinfWithin}
use Rattle.hf_links.specs.Grpl.{Group, IsGrplWithin}
use Rattle.hf_links.specs.Iref.{IsIrefWithin}
use Rattle.hf_loc.specs.Iloc.{loc_rows}
use Rattle.hf_prop.specs.Iprp.{IsIprpWithin}
use Rattle.hf_prop.specs.declared.assoc.Assoc.{Assoc}
use Rattle.hf_prop.specs.declared.assoc.Pick.{Pick}
use Rattle.hf_prop.specs.declared.iprp.Iprp.{Iprp}
use Rattle.hf_links.specs.Kinds.{is_need}
use Rattle.hf_store.specs.Store.{Item, ItemStore}
use Rattle.hf_store.specs.Valid.{Valid}
use Rattle.hf_read.specs.Kept.{kept_groups}
use Rattle.hf_read.specs.Reading.{idat_of, item_of}
use Rattle.hf_read.specs.Tables.{Tables, AreLocs, AreLinks, AreProps, AreGroups, infos_by_id, item_ids, located_in, items_in}
use Rattle.hf_read.specs.TopLevel.{IsTopLevel, Parts, AreParts}

-- the references that an item needs name items
abbrev pub NeedsAreItems : List ℕ → List RefBox → Type 0
NeedsAreItems ids links = (r : RefBox) → IsIn r links → IsIn r.from ids → IsTrue (is_need r.kind) → AllByRecursion (λ to. IsIn to ids) r.to

-- the associations of items select properties that are there, or none
abbrev pub PicksAreProps : List ℕ → Iprp → Type 0
PicksAreProps ids v = (a : Assoc) → IsIn a v.assocs → IsIn a.item ids → AllByRecursion (λ (p : Pick). p.index ≤ length v.props) a.picks

-- the item is that of an entry of `iinf`: what the entry says, the bytes at its places, and what is kept of its
-- associations and references
pub record IsItemOf (F : List ℕ) (idat : Option (List ℕ)) (t : Tables) (info : Info) (i : Item) : Type 0 where
  pub placed : IsPlaced F idat (items_in t) (located_in t info)
  pub is : i ≡ item_of t info placed.bytes

-- the file denotes the store
pub record Denotes (F : List ℕ) (s : ItemStore) : Type 0 where
  -- the boxes of the file, and those of its `meta`
  pub top : List BoxAt
  pub boxes : IsBoxes F 0 true top
  pub ftyp : BoxAt
  pub meta : BoxAt
  pub level : IsTopLevel top ftyp meta
  pub full : 4 ≤ length meta.body
  pub children : List BoxAt
  pub inner : IsBoxes (drop 4 meta.body) (meta.at + meta.head + 4) false children
  pub parts : Parts
  pub are_parts : AreParts children parts
  -- what stands in them
  pub brands : IsFtyp ftyp.body s.brands
  pub picture : IsHdlr parts.hdlr.body
  pub primary : IsPitm parts.pitm.body s.primary
  pub tables : Tables
  pub infos : IsIinf parts.iinf tables.infos
  pub locs : AreLocs parts.iloc tables.locs
  pub links : AreLinks parts.iref tables.links
  pub iprp : AreProps parts.iprp tables.iprp
  pub all_groups : AreGroups parts.grpl tables.groups
  -- what names items, and properties, that must be there
  pub needs : NeedsAreItems (item_ids tables.infos) tables.links
  pub picks : PicksAreProps (item_ids tables.infos) tables.iprp
  -- the items are those of the entries of `iinf`, by rising id
  pub items : AllZip (IsItemOf F (idat_of parts) tables) (infos_by_id tables.infos) s.items
  pub groups : s.groups ≡ kept_groups (item_ids tables.infos) tables.groups
  pub valid : Valid s

-- ---- the limits of reading

abbrev pub LinksWithin : Option BoxAt → List RefBox → Type 0
LinksWithin None links = Unit {0}
LinksWithin (Some b) links = IsIrefWithin b links

abbrev pub PropsWithin : Option BoxAt → Iprp → Type 0
PropsWithin None v = Unit {0}
PropsWithin (Some b) v = IsIprpWithin b v

abbrev pub GroupsWithin : Option BoxAt → List Group → Type 0
GroupsWithin None groups = Unit {0}
GroupsWithin (Some b) groups = IsGrplWithin b groups

-- its lists of boxes, the rows of its tables and the leaves of its items are within the limits of reading
pub record IsWithin (F : List ℕ) (s : ItemStore) (d : Denotes F s) : Type 0 where
  pub top : length d.top ≤ BOXES
  pub children : length d.children ≤ BOXES
  pub infos : IsIinfWithin d.parts.iinf d.tables.infos
  pub locs : loc_rows d.tables.locs ≤ ROWS
  pub links : LinksWithin d.parts.iref d.tables.links
  pub iprp : PropsWithin d.parts.iprp d.tables.iprp
  pub groups : GroupsWithin d.parts.grpl d.tables.groups
  pub leaves : sum (map (leaves_of (items_in d.tables)) (items_in d.tables)) ≤ PIECES

-- the file denotes the store, and keeps the limits of reading
abbrev pub DenotesWithin : List ℕ → ItemStore → Type 0
DenotesWithin F s = (d : Denotes F s) × IsWithin F s d
