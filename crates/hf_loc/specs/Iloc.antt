-- `iloc`: ItemLocationBox of ISO/IEC 14496-12, versions 0 to 2. The order in which faults are told, the limit of rows, and
-- the entries of a canonical file are this project's own rule.
use Rattle.std.specs.Prelude.{◌≡◌, ◌<◌, ◌≤◌, ◌+◌, ◌*◌, ◌/◌, ◌%◌, ◌^◌, ℕ, Bool, ◌&&◌, ◌||◌, List, [], ◌∷◌, ◌++◌, length, map, ◌==◌, nat_lt, Result, Ok, Err, IsTrue, if◌then◌else◌}
use Rattle.std.specs.List.{flat_map, sum_by}
use Rattle.hf_base.specs.Number.{num}
use Rattle.hf_base.specs.Reading.{◌>>=◌, front, front_full, full, times}
use Rattle.hf_base.specs.Entries.{AreTexts, has_id, are_distinct, refuse_if, entries_from}
use Rattle.hf_base.specs.declared.fault.ReadRefusal.{ReadRefusal}
use Rattle.hf_base.specs.declared.fault.ReadRefusal.TheVariants.{BadRecord, BadVersion, BadWidth, TooLarge, DoubleLocation}
use Rattle.hf_base.specs.declared.kinds.TheConstants.{ILOC}
use Rattle.hf_base.specs.declared.limits.TheConstants.{ROWS}
use Rattle.hf_base.specs.declared.loc.Extent.{Extent}
use Rattle.hf_base.specs.declared.loc.Loc.{Loc}
use Rattle.hf_box.specs.Written.{id_width}

-- how many bytes the fields take
pub record Widths : Type 0 where
  pub id : ℕ
  pub method : ℕ
  pub offset : ℕ
  pub length : ℕ
  pub base : ℕ
  pub index : ℕ

-- by the version and the two bytes behind the flags: the first has offset_size in its high four bits and length_size in
-- its low four, the second base_offset_size and index_size. Version 0 has neither a method nor an index, and version 2
-- has ids of four bytes
abbrev pub widths_of : ℕ → ℕ → ℕ → Widths
widths_of version sizes bases = record {
  id = id_width (version == 2);
  method = if version == 0 then 0 else 2;
  offset = sizes / 16;
  length = sizes % 16;
  base = bases / 16;
  index = if version == 0 then 0 else bases % 16;
}

-- an offset, a length, a base or an index takes no byte, four or eight
abbrev pub is_width : ℕ → Bool
is_width w = (w == 0) || (w == 4) || (w == 8)

abbrev pub are_widths : Widths → Bool
are_widths w = is_width w.offset && is_width w.length && is_width w.base && is_width w.index

-- the index of an extent; one that takes no byte is 1
abbrev pub index_of : ℕ → ℕ → ℕ
index_of w n = if w == 0 then 1 else n

-- ---- what stands in a body

-- the text is an extent
pub record IsExtent (w : Widths) (text : List ℕ) (e : Extent) : Type 0 where
  pub index : ℕ
  pub index_fits : index < 256 ^ w.index
  pub is_index : e.index ≡ index_of w.index index
  pub offset : e.offset < 256 ^ w.offset
  pub length : e.length < 256 ^ w.length
  pub is : text ≡ num index w.index ++ (num e.offset w.offset ++ num e.length w.length)

-- the text is an entry: the method is the low four bits of its field, and 0 where there is no field
pub record IsEntry (w : Widths) (text : List ℕ) (l : Loc) : Type 0 where
  pub method : ℕ
  pub method_fits : method < 256 ^ w.method
  pub is_method : l.method ≡ method % 16
  pub id : l.id < 256 ^ w.id
  pub dref : l.dref < 256 ^ 2
  pub base : l.base < 256 ^ w.base
  pub count : length l.extents < 256 ^ 2
  pub parts : List ℕ
  pub is : text ≡ num l.id w.id ++ (num method w.method ++ (num l.dref 2 ++ (num l.base w.base ++ (num (length l.extents) 2 ++ parts))))
  pub extents : AreTexts (IsExtent w) parts l.extents

abbrev pub loc_ids : List Loc → List ℕ
loc_ids locs = map (λ (l : Loc). l.id) locs

-- entries and extents, counted
abbrev pub loc_rows : List Loc → ℕ
loc_rows locs = sum_by (λ (l : Loc). 1 + length l.extents) locs

-- the body has these entries: the widths, the count and the entries; the flags, and what follows, are free. No two have
-- one id, whether it is that of an item or not
pub record IsIloc (body : List ℕ) (locs : List Loc) : Type 0 where
  pub version : ℕ
  pub known : version ≤ 2
  pub flags : ℕ
  pub flags_fit : flags < 256 ^ 3
  pub sizes : ℕ
  pub sizes_fit : sizes < 256
  pub bases : ℕ
  pub bases_fit : bases < 256
  pub widths : IsTrue (are_widths (widths_of version sizes bases))
  pub count : length locs < 256 ^ (widths_of version sizes bases).id
  pub entries : List ℕ
  pub rest : List ℕ
  pub is : body ≡ full version flags ++ (num sizes 1 ++ (num bases 1 ++ (num (length locs) (widths_of version sizes bases).id ++ (entries ++ rest))))
  pub texts : AreTexts (IsEntry (widths_of version sizes bases)) entries locs
  pub distinct : IsTrue (are_distinct (loc_ids locs))

-- ---- the same, read from left to right

-- the index at the front
unfoldable pub index_at : ReadRefusal → ℕ → List ℕ → Result (ℕ × List ℕ) ReadRefusal
index_at short w bytes = do
  n ← front w short bytes
  Ok (index_of w n.0, n.1)

-- the extent at the front
unfoldable pub extent_at : ReadRefusal → Widths → List ℕ → Result (Extent × List ℕ) ReadRefusal
extent_at short w bytes = do
  index ← index_at short w.index bytes
  offset ← front w.offset short index.1
  size ← front w.length short offset.1
  Ok (record { index = index.0; offset = offset.0; length = size.0 }, size.1)

-- the fields of an entry in front of its extents
pub record Fields : Type 0 where
  pub id : ℕ
  pub method : ℕ
  pub dref : ℕ
  pub base : ℕ
  pub count : ℕ

unfoldable pub fields_at : ReadRefusal → Widths → List ℕ → Result (Fields × List ℕ) ReadRefusal
fields_at short w bytes = do
  id ← front w.id short bytes
  method ← front w.method short id.1
  dref ← front 2 short method.1
  base ← front w.base short dref.1
  count ← front 2 short base.1
  Ok (record { id = id.0; method = method.0 % 16; dref = dref.0; base = base.0; count = count.0 }, count.1)

-- the entry at the front, behind earlier rows; with the rows that its count states they are no more than so many
unfoldable pub loc_at : ℕ → ℕ → ℕ → Widths → List ℕ → Result (Loc × List ℕ) ReadRefusal
loc_at most at rows w bytes = do
  fields ← fields_at (BadRecord ILOC at) w bytes
  few ← refuse_if (nat_lt most (rows + 1 + fields.0.count)) (TooLarge ILOC at)
  extents ← times (extent_at (BadRecord ILOC at) w) fields.0.count fields.1
  Ok (record { id = fields.0.id; method = fields.0.method; dref = fields.0.dref; base = fields.0.base; extents = extents.0 }, extents.1)

-- the same behind earlier entries, of which none has its id
unfoldable pub entry_at : ℕ → ℕ → Widths → List Loc → List ℕ → Result (Loc × List ℕ) ReadRefusal
entry_at most at w earlier bytes = do
  loc ← loc_at most at (loc_rows earlier) w bytes
  new ← refuse_if (has_id loc.0.id (loc_ids earlier)) (DoubleLocation loc.0.id)
  Ok loc

-- the widths, where each is one
unfoldable pub widths_at : ReadRefusal → ℕ → ℕ → ℕ → Result Widths ReadRefusal
widths_at bad version sizes bases =
    if are_widths (widths_of version sizes bases) then Ok (widths_of version sizes bases) else Err bad

-- the widths, and the count of the entries
unfoldable pub counted_at : ℕ → List ℕ → Result ((Widths × ℕ) × List ℕ) ReadRefusal
counted_at at body = do
  version ← front_full (BadRecord ILOC at) body
  known ← refuse_if (nat_lt 2 version.0.0) (BadVersion ILOC at)
  sizes ← front 1 (BadRecord ILOC at) version.1
  bases ← front 1 (BadRecord ILOC at) sizes.1
  count ← front (id_width (version.0.0 == 2)) (BadRecord ILOC at) bases.1
  widths ← widths_at (BadWidth at) version.0.0 sizes.0 bases.0
  Ok ((widths, count.0), count.1)

-- the entries of a body, or its fault, in a box at this place, with so many rows at most
unfoldable pub iloc_within : ℕ → ℕ → List ℕ → Result (List Loc) ReadRefusal
iloc_within most at body = do
  counted ← counted_at at body
  locs ← entries_from (entry_at most at counted.0.0) [] counted.0.1 counted.1
  Ok locs.0

abbrev pub iloc_at : ℕ → List ℕ → Result (List Loc) ReadRefusal
iloc_at at body = iloc_within ROWS at body

-- ---- the body as it is written

-- bytes of an offset and of a length: all of a file take eight, or all take four
abbrev pub offset_width : Bool → ℕ
offset_width long = if long then 8 else 4

-- the version that has ids of this width
abbrev pub iloc_version : Bool → ℕ
iloc_version wide = if wide then 2 else 1

-- an entry as a canonical file has it, with one extent
pub record Entry : Type 0 where
  pub id : ℕ
  pub method : ℕ
  pub offset : ℕ
  pub length : ℕ

-- the entry as it is read
abbrev pub loc_of : Entry → Loc
loc_of e = record { id = e.id; method = e.method; dref = 0; base = 0; extents = record { index = 1; offset = e.offset; length = e.length } ∷ [] }

-- its bytes; w is the width of offsets and lengths
unfoldable pub iloc_entry : Bool → ℕ → ℕ → ℕ → ℕ → ℕ → List ℕ
iloc_entry wide w id method offset len =
    num id (id_width wide)  -- item_ID
    ++ num method 2  -- reserved, construction_method
    ++ num 0 2  -- data_reference_index
    ++ num 1 2  -- extent_count
    ++ num offset w  -- extent_offset
    ++ num len w  -- extent_length

abbrev pub entry_text : Bool → ℕ → Entry → List ℕ
entry_text wide w e = iloc_entry wide w e.id e.method e.offset e.length

-- the body with these entries
unfoldable pub iloc_body : Bool → ℕ → List Entry → List ℕ
iloc_body wide w entries =
    full (iloc_version wide) 0
    ++ num (16 * w + w) 1  -- offset_size, length_size
    ++ num 0 1  -- base_offset_size, index_size
    ++ num (length entries) (id_width wide)  -- item_count
    ++ flat_map (entry_text wide w) entries

-- the numbers of an entry fit their fields; a method has four bits
pub record IsWritten (wide : Bool) (w : ℕ) (e : Entry) : Type 0 where
  pub id : e.id < 256 ^ id_width wide
  pub method : e.method < 16
  pub offset : e.offset < 256 ^ w
  pub length : e.length < 256 ^ w
