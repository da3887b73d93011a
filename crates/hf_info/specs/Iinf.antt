-- `iinf`: ItemInfoBox of ISO/IEC 14496-12. That its count is the number of its `infe`, that no two have one id, and the
-- order in which faults are told, is this project's own rule.
use Rattle.std.specs.Prelude.{◌≡◌, ◌<◌, ◌≤◌, ◌+◌, ◌^◌, ℕ, Bool, false, not, List, [], ◌∷◌, ◌++◌, length, map, ◌==◌, Result, Ok, IsTrue}
use Rattle.std.specs.List.{AllZip, flat_map}
use Rattle.hf_base.specs.Number.{num}
use Rattle.hf_base.specs.Reading.{◌>>=◌, front, front_full, full}
use Rattle.hf_base.specs.Entries.{has_id, are_distinct, IsIdWidth, id_width_at, refuse_if}
use Rattle.hf_base.specs.declared.fault.ReadRefusal.{ReadRefusal}
use Rattle.hf_base.specs.declared.fault.ReadRefusal.TheVariants.{BadRecord, BadVersion, DoubleItem}
use Rattle.hf_base.specs.declared.kinds.TheConstants.{IINF, INFE}
use Rattle.hf_base.specs.declared.limits.TheConstants.{BOXES}
use Rattle.hf_box.specs.Boxes.{BoxAt, IsBoxes}
use Rattle.hf_box.specs.Framing.{frames}
use Rattle.hf_box.specs.Tables.{of_kind, boxes_from}
use Rattle.hf_box.specs.Written.{id_width, id_version}
use Rattle.hf_info.specs.Infe.{Info, IsInfe, infe_at, infe_box}

abbrev pub info_ids : List Info → List ℕ
info_ids infos = map (λ (i : Info). i.id) infos

-- these ids are those of the entries
abbrev pub AreSeen : List ℕ → List Info → Type 0
AreSeen ids infos = (id : ℕ) → has_id id ids ≡ has_id id (info_ids infos)

-- the box says this of its item
abbrev pub IsInfeBox : BoxAt → Info → Type 0
IsInfeBox b info = IsInfe b.body info

-- the box has these entries: their count, of two bytes in version 0 and four in version 1, and boxes, of which the
-- `infe` are the entries, in order; no two have one id
pub record IsIinf (b : BoxAt) (infos : List Info) : Type 0 where
  pub version : ℕ
  pub flags : ℕ
  pub flags_fit : flags < 256 ^ 3
  pub width : ℕ
  pub versioned : IsIdWidth 0 version width
  pub count_fits : length infos < 256 ^ width
  pub inner : List ℕ
  pub is : b.body ≡ full version flags ++ (num (length infos) width ++ inner)
  pub boxes : List BoxAt
  pub framed : IsBoxes inner (b.at + b.head + 4 + width) false boxes
  pub entries : AllZip IsInfeBox (of_kind INFE boxes) infos
  pub distinct : IsTrue (are_distinct (info_ids infos))

-- the same, within the limit of boxes in one list
abbrev pub IsIinfWithin : BoxAt → List Info → Type 0
IsIinfWithin b infos = (r : IsIinf b infos) × (length r.boxes ≤ BOXES)

-- ---- the same, read from left to right

-- the entries before, and that of a box, where it is a new one
unfoldable pub with_infe : List Info → BoxAt → Result (List Info) ReadRefusal
with_infe earlier b = do
  info ← infe_at b.at b.body
  new ← refuse_if (has_id info.id (info_ids earlier)) (DoubleItem info.id)
  Ok (earlier ++ info ∷ [])

-- the entries of a box, or its fault
unfoldable pub iinf_at : BoxAt → Result (List Info) ReadRefusal
iinf_at b = do
  version ← front_full (BadRecord IINF b.at) b.body
  width ← id_width_at 0 (BadVersion IINF b.at) version.0.0
  count ← front width (BadRecord IINF b.at) version.1
  boxes ← frames false (b.at + b.head + 4 + width) count.1
  whole ← refuse_if (not (count.0 == length (of_kind INFE boxes))) (BadRecord IINF b.at)
  boxes_from with_infe [] (of_kind INFE boxes)

-- ---- the body as it is written

unfoldable pub iinf_body : Bool → List Info → List ℕ
iinf_body wide infos =
    full (id_version wide) 0
    ++ num (length infos) (id_width wide)  -- entry_count
    ++ flat_map (infe_box wide) infos
