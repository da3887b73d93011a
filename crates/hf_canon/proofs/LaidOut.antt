-- What stands in the boxes of a layout.
use Rattle.std.proofs.Common.{◌≡◌, ◌+◌, ◌≤◌, ℕ, true, false, List, [], ◌∷◌, length, map, drop, Option, Some, None}
use Rattle.std.specs.List.{filter}
use Rattle.hf_box.specs.Boxes.{BoxAt, IsBoxes}
use Rattle.hf_head.specs.Ftyp.{ftyp_body}
use Rattle.hf_head.specs.Hdlr.{hdlr_body}
use Rattle.hf_head.specs.Pitm.{pitm_body}
use Rattle.hf_info.specs.Iinf.{iinf_body}
use Rattle.hf_links.specs.Grpl.{grpl_body}
use Rattle.hf_links.specs.Iref.{iref_body}
use Rattle.hf_loc.specs.Iloc.{loc_of, iloc_body}
use Rattle.hf_prop.specs.Iprp.{iprp_body}
use Rattle.hf_store.specs.Layout.{own, is_wide, infos_of, all_boxes, iprp_of, entries_of, in_idat, bytes_in}
use Rattle.hf_store.specs.Store.{ItemStore}
use Rattle.hf_read.specs.Tables.{Tables}
use Rattle.hf_read.specs.TopLevel.{IsTopLevel, Parts, AreParts}

-- the tables of a layout in a file of so many bytes
abbrev pub tables_of : ℕ → ItemStore → Tables
tables_of end s = record {
  infos = infos_of s.items;
  locs = map loc_of (entries_of own end s.items);
  links = all_boxes s.items;
  iprp = iprp_of s;
  groups = s.groups;
}

-- the box is there, with this body
abbrev pub HasBody : List ℕ → Option BoxAt → Type 0
HasBody body o = (b : BoxAt) × (o ≡ Some b) × (b.body ≡ body)

-- the box is there where something is listed in it
abbrev pub HasBodyIfAny : {A : Type 0} → (List A → List ℕ) → List A → Option BoxAt → Type 0
HasBodyIfAny body [] o = o ≡ None
HasBodyIfAny body (x ∷ xs) o = HasBody (body (x ∷ xs)) o

-- the bytes are boxes, of the types that are read, with the bodies that are written
pub record IsLaidOut (F : List ℕ) (s : ItemStore) (w : ℕ) : Type 0 where
  -- the boxes of the file, and those of its `meta`
  pub top : List BoxAt
  pub boxes : IsBoxes F 0 true top
  pub ftyp : BoxAt
  pub meta : BoxAt
  pub level : IsTopLevel top ftyp meta
  pub full : 4 ≤ length meta.body
  pub children : List BoxAt
  pub inner : IsBoxes (drop 4 meta.body) (meta.at + meta.head + 4) false children
  pub parts : Parts
  pub are_parts : AreParts children parts
  -- their bodies
  pub brands : ftyp.body ≡ ftyp_body s.brands
  pub hdlr : parts.hdlr.body ≡ hdlr_body
  pub pitm : parts.pitm.body ≡ pitm_body (is_wide s.items) s.primary
  pub iinf : parts.iinf.body ≡ iinf_body (is_wide s.items) (infos_of s.items)
  pub iloc : HasBody (iloc_body (is_wide s.items) w (entries_of own (length F) s.items)) parts.iloc
  pub iref : HasBodyIfAny (iref_body (is_wide s.items)) (all_boxes s.items) parts.iref
  pub iprp : HasBody (iprp_body (is_wide s.items) (iprp_of s)) parts.iprp
  pub grpl : HasBodyIfAny grpl_body s.groups parts.grpl
  pub idat : HasBodyIfAny bytes_in (filter in_idat s.items) parts.idat
