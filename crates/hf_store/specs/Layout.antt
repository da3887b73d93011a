-- The boxes of a canonical file: what the items of a store give the records of ISO/IEC 14496-12 (and of ISO/IEC 23008-12 for
-- `ipco`, `ipma` and the derived items); which versions, widths and orders a canonical file has is this project's own rule.
use Rattle.std.specs.Prelude.{ℕ, ◌-◌, ◌^◌, Bool, true, false, ◌&&◌, ◌||◌, not, List, [], ◌∷◌, ◌++◌, length, map, filter, ◌==◌, nat_lt, nat_le, if◌then◌else◌}
use Rattle.std.specs.List.{flat_map, list_any}
use Rattle.hf_base.specs.Reading.{full as full_box}
use Rattle.hf_base.specs.declared.four.FourCc.{FourCc}
use Rattle.hf_base.specs.declared.loc.RefBox.{RefBox}
use Rattle.hf_box.specs.Head.{box}
use Rattle.hf_box.specs.Literals.{four}
use Rattle.hf_box.specs.Walk.{is_kind}
use Rattle.hf_box.specs.Written.{bit}
use Rattle.hf_head.specs.Ftyp.{ftyp_body}
use Rattle.hf_head.specs.Hdlr.{hdlr_body}
use Rattle.hf_head.specs.Pitm.{pitm_body}
use Rattle.hf_info.specs.Infe.{Info}
use Rattle.hf_info.specs.Iinf.{iinf_body}
use Rattle.hf_links.specs.Grpl.{grpl_body}
use Rattle.hf_links.specs.Iref.{iref_body}
use Rattle.hf_loc.specs.Iloc.{Entry, iloc_body}
use Rattle.hf_prop.specs.declared.assoc.Assoc.{Assoc}
use Rattle.hf_prop.specs.declared.iprp.Iprp.{Iprp}
use Rattle.hf_prop.specs.Iprp.{iprp_body}
use Rattle.hf_store.specs.Store.{Prop, RefList, Item, ItemStore}
use Rattle.hf_store.specs.Table.{table_of}
use Rattle.hf_store.specs.Picks.{pick_of}

-- ---- the width of item ids

-- some item id takes more than two bytes; then all of them take four
unfoldable pub is_wide : List Item → Bool
is_wide is = list_any (λ (i : Item). nat_le (256 ^ 2) i.id) is

-- ---- boxes that may be absent

-- a box that is left out where nothing is listed in it
unfoldable pub box_if_any : {A : Type 0} → FourCc → (List A → List ℕ) → List A → List ℕ
box_if_any kind body [] = []
box_if_any kind body (x ∷ xs) = box kind (body (x ∷ xs))

-- ---- iinf

-- what the `infe` of an item says
abbrev pub info_of : Item → Info
info_of i = record {
  id = i.id;
  kind = i.kind;
  hidden = i.hidden;
  name = i.name;
  content = i.content;
  encoding = i.encoding;
  uri = i.uri;
}

-- the entries of `iinf`, one for each item
abbrev pub infos_of : List Item → List Info
infos_of is = map info_of is

-- ---- iref

-- the boxes of `iref` that are written for an item, one for each type
abbrev pub item_boxes : ℕ → List RefList → List RefBox
item_boxes from rs = map (λ (r : RefList). record { kind = r.kind; from = from; to = r.to }) rs

-- and for all items; without references there is no `iref`
abbrev pub all_boxes : List Item → List RefBox
all_boxes is = flat_map (λ (i : Item). item_boxes i.id i.refs) is

-- ---- iprp

abbrev pub has_props : Item → Bool
has_props i = nat_lt 0 (length i.props)

-- the associations of an item
abbrev pub assoc_of : List Prop → Item → Assoc
assoc_of table i = record { item = i.id; picks = map (pick_of table) i.props }

-- the entries of `ipma`, one for each item that has properties
abbrev pub assocs_of : List Prop → List Item → List Assoc
assocs_of table is = map (assoc_of table) (filter has_props is)

-- what `iprp` says, which is always there
abbrev pub iprp_of : ItemStore → Iprp
iprp_of s = record { props = table_of s; assocs = assocs_of (table_of s) s.items }

-- ---- where the bytes of items are written

abbrev pub has_bytes : List ℕ → Bool
has_bytes [] = false
has_bytes (b ∷ bs) = true

-- the items that have an entry in `iloc`
abbrev pub with_bytes : List Item → List Item
with_bytes is = filter (λ (i : Item). has_bytes i.bytes) is

-- a small derived item, whose bytes stand in `idat`: a `grid` or `iovl` with 1 to 256 bytes
abbrev pub in_idat : Item → Bool
in_idat i = (is_kind i.kind (four "grid") || is_kind i.kind (four "iovl")) && has_bytes i.bytes && nat_le (length i.bytes) 256

-- an item with bytes that stand in `mdat`
abbrev pub is_data_item : Item → Bool
is_data_item i = has_bytes i.bytes && not (in_idat i)

-- the bytes of these items, one after the other
unfoldable pub bytes_in : List Item → List ℕ
bytes_in is = flat_map (λ (i : Item). i.bytes) is

-- of each data item among these items, the id of the one whose bytes in `mdat` are its bytes
abbrev pub Homes : Type 0
Homes = List Item → Item → ℕ

-- the bytes of each data item are written
abbrev pub own : Homes
own is i = i.id

-- the data items whose bytes `mdat` holds
abbrev pub written : Homes → List Item → List Item
written home is = filter (λ (i : Item). is_data_item i && (home is i == i.id)) is

-- the body of `mdat`, MediaDataBox of ISO/IEC 14496-12
abbrev pub mdat_body : Homes → List Item → List ℕ
mdat_body home is = bytes_in (written home is)

-- the body of `idat`, ItemDataBox of ISO/IEC 14496-12, which is absent where it would be empty
abbrev pub idat_body : List Item → List ℕ
idat_body is = bytes_in (filter in_idat is)

-- the place in the file of a data item's bytes, measured back from the end of the file: the written bytes of its home
-- and of the items after that
abbrev pub mdat_offset : Homes → ℕ → List Item → Item → ℕ
mdat_offset home file_len is i = file_len - length (bytes_in (filter (λ (j : Item). nat_le (home is i) j.id) (written home is)))

-- the bytes in `idat` of the items before this one
abbrev pub idat_offset : List Item → Item → ℕ
idat_offset is i = length (bytes_in (filter (λ (j : Item). in_idat j && nat_lt j.id i.id) is))

abbrev pub offset_of : Homes → ℕ → List Item → Item → ℕ
offset_of home file_len is i = if in_idat i then idat_offset is i else mdat_offset home file_len is i

-- construction method 1 counts offsets from the body of `idat`, method 0 from the beginning of the file
abbrev pub method_of : Item → ℕ
method_of i = bit (in_idat i)

-- ---- iloc

-- the entry of an item, in a file of so many bytes
abbrev pub entry_of : Homes → ℕ → List Item → Item → Entry
entry_of home file_len is i = record {
  id = i.id;
  method = method_of i;
  offset = offset_of home file_len is i;
  length = length i.bytes;
}

-- the entries of `iloc`, one for each item that has bytes
abbrev pub entries_of : Homes → ℕ → List Item → List Entry
entries_of home file_len is = map (entry_of home file_len is) (with_bytes is)

-- ---- meta and the file

-- the body of `meta` before its `iloc`: neither the width of offsets nor the length of the file stands in it
unfoldable pub meta_front : ItemStore → List ℕ
meta_front s =
    let wide = is_wide s.items in
    full_box 0 0
    ++ box (four "hdlr") hdlr_body
    ++ box (four "pitm") (pitm_body wide s.primary)
    ++ box (four "iinf") (iinf_body wide (infos_of s.items))
    ++ box_if_any (four "iref") (iref_body wide) (all_boxes s.items)
    ++ box (four "iprp") (iprp_body wide (iprp_of s))
    ++ box_if_any (four "grpl") grpl_body s.groups
    ++ box_if_any (four "idat") bytes_in (filter in_idat s.items)

-- `meta`, MetaBox of ISO/IEC 14496-12
unfoldable pub meta_body : Homes → ℕ → ℕ → ItemStore → List ℕ
meta_body home w file_len s =
    meta_front s
    ++ box (four "iloc") (iloc_body (is_wide s.items) w (entries_of home file_len s.items))

-- the bytes of a file that has so many bytes, with offsets of w bytes
unfoldable pub laid : Homes → ℕ → ℕ → ItemStore → List ℕ
laid home w file_len s =
    box (four "ftyp") (ftyp_body s.brands)
    ++ box (four "meta") (meta_body home w file_len s)
    ++ box (four "mdat") (mdat_body home s.items)
