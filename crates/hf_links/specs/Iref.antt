-- `iref`: ItemReferenceBox of ISO/IEC 14496-12. The order in which faults are told, and the limit of rows, are this
-- project's own rule.
use Rattle.std.specs.Prelude.{◌≡◌, ◌<◌, ◌≤◌, ◌+◌, ◌^◌, ℕ, Bool, false, List, [], ◌∷◌, ◌++◌, length, nat_lt, Result, Ok}
use Rattle.std.specs.List.{AllByRecursion, AllZip, flat_map, sum_by}
use Rattle.hf_base.specs.Number.{num}
use Rattle.hf_base.specs.Reading.{◌>>=◌, front, front_full, full, times}
use Rattle.hf_base.specs.Entries.{AreTexts, IsNum, IsIdWidth, id_width_at, refuse_if}
use Rattle.hf_base.specs.declared.fault.ReadRefusal.{ReadRefusal}
use Rattle.hf_base.specs.declared.fault.ReadRefusal.TheVariants.{BadRecord, BadVersion, TooLarge}
use Rattle.hf_base.specs.declared.kinds.TheConstants.{IREF}
use Rattle.hf_base.specs.declared.limits.TheConstants.{BOXES, LINKS, ROWS}
use Rattle.hf_base.specs.declared.loc.RefBox.{RefBox}
use Rattle.hf_box.specs.Boxes.{BoxAt, IsBoxes}
use Rattle.hf_box.specs.Framing.{frames}
use Rattle.hf_box.specs.Head.{box}
use Rattle.hf_box.specs.Tables.{boxes_from}
use Rattle.hf_box.specs.Written.{id_width, id_version}

-- the box is of these references (SingleItemTypeReferenceBox): its type is theirs; what follows the ids is free
pub record IsRefBox (width : ℕ) (b : BoxAt) (r : RefBox) : Type 0 where
  pub kind : r.kind ≡ b.kind
  pub from : r.from < 256 ^ width
  pub count : length r.to < 256 ^ 2
  pub ids : List ℕ
  pub rest : List ℕ
  pub is : b.body ≡ num r.from width ++ (num (length r.to) 2 ++ (ids ++ rest))
  pub to : AreTexts (IsNum width) ids r.to

-- inner boxes and ids that they lead to, counted
abbrev pub link_rows : List RefBox → ℕ
link_rows links = sum_by (λ (r : RefBox). 1 + length r.to) links

-- the box has these references, one for each inner box, in order; ids take two bytes in version 0 and four in version 1,
-- and the flags are free
pub record IsIref (b : BoxAt) (links : List RefBox) : Type 0 where
  pub version : ℕ
  pub flags : ℕ
  pub flags_fit : flags < 256 ^ 3
  pub width : ℕ
  pub versioned : IsIdWidth 0 version width
  pub inner : List ℕ
  pub is : b.body ≡ full version flags ++ inner
  pub boxes : List BoxAt
  pub framed : IsBoxes inner (b.at + b.head + 4) false boxes
  pub each : AllZip (IsRefBox width) boxes links

-- the box has these references, and its inner boxes and rows are within the limits
abbrev pub IsIrefWithin : BoxAt → List RefBox → Type 0
IsIrefWithin b links = (r : IsIref b links) × (length r.boxes ≤ BOXES) × (link_rows links ≤ ROWS)

-- ---- the same, read from left to right

-- the references of an inner box behind so many rows, or their fault, which has the place of that box
unfoldable pub ref_box_at : ℕ → ℕ → BoxAt → Result RefBox ReadRefusal
ref_box_at width rows b = do
  from ← front width (BadRecord IREF b.at) b.body
  count ← front 2 (BadRecord IREF b.at) from.1
  few ← refuse_if (nat_lt ROWS (rows + 1 + count.0)) (TooLarge IREF b.at)
  to ← times (front width (BadRecord IREF b.at)) count.0 count.1
  Ok (record { kind = b.kind; from = from.0; to = to.0 })

-- the references before, and those of an inner box
unfoldable pub with_ref_box : ℕ → List RefBox → BoxAt → Result (List RefBox) ReadRefusal
with_ref_box width earlier b = do
  link ← ref_box_at width (link_rows earlier) b
  Ok (earlier ++ link ∷ [])

-- the references of a box, or its fault
unfoldable pub iref_at : BoxAt → Result (List RefBox) ReadRefusal
iref_at b = do
  version ← front_full (BadRecord IREF b.at) b.body
  width ← id_width_at 0 (BadVersion IREF b.at) version.0.0
  boxes ← frames false (b.at + b.head + 4) version.1
  boxes_from (with_ref_box width) [] boxes

-- ---- the body as it is written

-- SingleItemTypeReferenceBox of ISO/IEC 14496-12: the references of one type that an item has
unfoldable pub reference_body : Bool → ℕ → List ℕ → List ℕ
reference_body wide from to =
    num from (id_width wide)  -- from_item_ID
    ++ num (length to) 2  -- reference_count
    ++ flat_map (λ id. num id (id_width wide)) to  -- to_item_ID

abbrev pub reference_box : Bool → RefBox → List ℕ
reference_box wide r = box r.kind (reference_body wide r.from r.to)

-- the body of `iref` with these references, in order
unfoldable pub iref_body : Bool → List RefBox → List ℕ
iref_body wide links =
    full (id_version wide) 0
    ++ flat_map (reference_box wide) links

-- what can be written of references: ids of this width, and at most so many of them
pub record IsWritable (wide : Bool) (r : RefBox) : Type 0 where
  pub kind : length r.kind.0 ≡ 4
  pub from : r.from < 256 ^ id_width wide
  pub count : length r.to ≤ LINKS
  pub to : AllByRecursion (λ id. id < 256 ^ id_width wide) r.to
