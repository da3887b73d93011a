-- The plan of a canonical file: what is written, counted before any byte is there.
use Rattle.std.specs.Prelude.{ℕ, ◌≡◌, ◌^◌, Bool, List, length, map, filter, slice_get, Option, Some, None, nat_le, if◌then◌else◌}
use Rattle.std.specs.List.{flat_map, AllZip}
use Rattle.hf_box.specs.Head.{box}
use Rattle.hf_box.specs.Literals.{four}
use Rattle.hf_info.specs.Iinf.{iinf_body}
use Rattle.hf_links.specs.Grpl.{grpl_body}
use Rattle.hf_links.specs.Iref.{iref_body}
use Rattle.hf_loc.specs.Iloc.{offset_width, iloc_body}
use Rattle.hf_prop.specs.Ipma.{ipma_body}
use Rattle.hf_prop.specs.Iprp.{is_long_table, ipco_body, iprp_body}
use Rattle.hf_store.specs.Store.{Prop, Item, ItemStore}
use Rattle.hf_store.specs.Table.{number_of, props_of, lists_of, table_of}
use Rattle.hf_table.specs.Numbered.{IsFirst}
use Rattle.hf_store.specs.Layout.{Homes, own, is_wide, has_bytes, in_idat, offset_of, infos_of, all_boxes, assocs_of, iprp_of, entries_of, box_if_any, bytes_in, mdat_body, meta_body, laid}
use Rattle.hf_plan.specs.declared.sizes.Sizes.{Sizes}

-- the offset that is written for an item in a file of so many bytes; none for one without bytes
abbrev pub start_of : Homes → ℕ → List Item → Item → Option ℕ
start_of home file_len is i = if has_bytes i.bytes then Some (offset_of home file_len is i) else None

-- the whole length of each box
unfoldable pub sizes_of : Bool → ItemStore → Sizes
sizes_of long s =
    let wide = is_wide s.items in
    record {
      meta = length (box (four "meta") (meta_body own (offset_width long) 0 s));
      iinf = length (box (four "iinf") (iinf_body wide (infos_of s.items)));
      iref = length (box_if_any (four "iref") (iref_body wide) (all_boxes s.items));
      iprp = length (box (four "iprp") (iprp_body wide (iprp_of s)));
      ipco = length (box (four "ipco") (ipco_body (table_of s)));
      ipma = length (box (four "ipma") (ipma_body wide (is_long_table (table_of s)) (assocs_of (table_of s) s.items)));
      grpl = length (box_if_any (four "grpl") grpl_body s.groups);
      idat = length (box_if_any (four "idat") bytes_in (filter in_idat s.items));
      iloc = length (box (four "iloc") (iloc_body wide (offset_width long) (entries_of own 0 s.items)));
      mdat = length (box (four "mdat") (mdat_body own s.items));
    }

-- the number of each property of an item in `ipco`
abbrev pub numbers_of : List Prop → Item → List ℕ
numbers_of table i = map (λ p. number_of p table) (props_of i)

-- a property is first used at the place of this item and at this place of its list
abbrev pub IsFirstUse : ItemStore → ℕ × ℕ → Prop → Type 0
IsFirstUse s place p = IsFirst (lists_of s) (flat_map props_of s.items) place p

-- what a plan says
pub record Planned : Type 0 where
  -- ids take four bytes
  pub wide : Bool
  -- offsets take eight bytes
  pub long : Bool
  -- bytes of the file
  pub total : ℕ
  -- of each item, the offset that is written for it
  pub starts : List (Option ℕ)
  pub sizes : Sizes
  -- of each box of `ipco`, the place of the first item that has the property, and the place in its list
  pub firsts : List (ℕ × ℕ)
  -- of each item, the number of each of its properties
  pub numbers : List (List ℕ)

-- the j-th property of the i-th item has this number
pub record IsNumber (p : Planned) (i j n : ℕ) : Type 0 where
  pub numbers : List ℕ
  pub item : slice_get p.numbers i ≡ Some numbers
  pub number : slice_get numbers j ≡ Some n

-- the i-th item has a j-th property
abbrev pub HasNumber : Planned → ℕ → ℕ → Type 0
HasNumber p i j = (n : ℕ) × IsNumber p i j n

-- the plan is that of the store. No length depends on an offset, so lengths are those of a layout with any offsets
pub record IsPlan (s : ItemStore) (p : Planned) : Type 0 where
  pub wide : p.wide ≡ is_wide s.items
  -- with offsets of four bytes the file would have 2^32 bytes or more
  pub long : p.long ≡ nat_le (2 ^ 32) (length (laid own 4 0 s))
  pub total : p.total ≡ length (laid own (offset_width p.long) 0 s)
  pub starts : p.starts ≡ map (start_of own p.total s.items) s.items
  pub sizes : p.sizes ≡ sizes_of p.long s
  -- the boxes of `ipco` are the distinct properties in the order of their first use
  pub firsts : AllZip (IsFirstUse s) p.firsts (table_of s)
  pub numbers : p.numbers ≡ map (numbers_of (table_of s)) s.items
