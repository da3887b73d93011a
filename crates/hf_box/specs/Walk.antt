-- The rows of a file: its boxes, and behind the first meta the boxes in it. Which boxes have rows is this project's own rule.
use Rattle.std.specs.Prelude.{◌≡◌, ◌≢◌, ◌⊎◌, ◌+◌, ◌≤◌, ◌<◌, ℕ, true, false, List, [], ◌∷◌, ◌++◌, length, drop, map, slice_get, Some, Result, Ok, Err, nat_lt, Bool, if◌then◌else◌}
use Rattle.std.specs.Str.{bytes_eq}
use Rattle.hf_base.specs.Reading.{◌>>=◌}
use Rattle.hf_base.specs.declared.four.FourCc.{FourCc}
use Rattle.hf_box.specs.Framing.{frames}
use Rattle.std.specs.List.{AllByRecursion}
use Rattle.hf_base.specs.declared.kinds.TheConstants.{META}
use Rattle.hf_base.specs.declared.fault.ReadRefusal.{ReadRefusal}
use Rattle.hf_base.specs.declared.fault.ReadRefusal.TheVariants.{BadRecord}
use Rattle.hf_box.specs.declared.view.BoxRow.{BoxRow}
use Rattle.hf_base.specs.declared.limits.TheConstants.{BOXES}
use Rattle.hf_box.specs.Boxes.{BoxAt, IsBoxes, FrameFault}

-- the row of a box that stands so deep: its place, its type and its size, header included
abbrev pub row_of : ℕ → BoxAt → BoxRow
row_of depth b = record { depth = depth; at = b.at; kind = b.kind; size = b.head + length b.body }

abbrev pub IsNotMeta : BoxAt → Type 0
IsNotMeta b = b.kind ≢ META

-- the box at this index is a meta
abbrev pub IsMetaAt : List BoxAt → ℕ → Type 0
IsMetaAt boxes i = slice_get (map (λ b. b.kind) boxes) i ≡ Some META

-- these boxes stand in the meta, behind the four bytes of its version and flags (ISO/IEC 14496-12, MetaBox)
abbrev pub AreChildren : BoxAt → List BoxAt → Type 0
AreChildren m children = (4 ≤ length m.body) × IsBoxes (drop 4 m.body) (m.at + m.head + 4) false children × (length children ≤ BOXES)

-- the meta has no version and flags, or behind them a framing fault
abbrev pub IsChildrenFault : BoxAt → ReadRefusal → Type 0
IsChildrenFault m fault =
    ((length m.body < 4) × (fault ≡ BadRecord META m.at))
    ⊎ ((4 ≤ length m.body) × FrameFault (drop 4 m.body) (m.at + m.head + 4) false fault)

-- m is the first meta of these boxes, and these stand before and behind it
pub record HasMeta (boxes before : List BoxAt) (m : BoxAt) (after : List BoxAt) : Type 0 where
  pub parts : boxes ≡ before ++ m ∷ after
  pub is : m.kind ≡ META
  pub first : AllByRecursion IsNotMeta before

-- the file is these boxes, within the limit
abbrev pub IsFile : List ℕ → List BoxAt → Type 0
IsFile file boxes = IsBoxes file 0 true boxes × (length boxes ≤ BOXES)

-- the rows of the file: one a box at depth 0, and behind the first meta, where there is one, one a child of it at depth 1
abbrev pub IsWalk : List ℕ → List BoxRow → Type 0
IsWalk file rows = (boxes : List BoxAt) × IsFile file boxes
    × ((AllByRecursion IsNotMeta boxes × (rows ≡ map (row_of 0) boxes))
    ⊎ ((before after children : List BoxAt) × (m : BoxAt) × HasMeta boxes before m after × AreChildren m children
    × (rows ≡ (map (row_of 0) (before ++ m ∷ []) ++ map (row_of 1) children) ++ map (row_of 0) after)))

-- the fault of the file's own boxes, and only where they have none that of the boxes in its first meta
abbrev pub IsWalkFault : List ℕ → ReadRefusal → Type 0
IsWalkFault file fault =
    FrameFault file 0 true fault
    ⊎ ((boxes before after : List BoxAt) × (m : BoxAt) × IsFile file boxes × HasMeta boxes before m after × IsChildrenFault m fault)

-- ---- the same, computed from left to right

abbrev pub is_kind : FourCc → FourCc → Bool
is_kind a b = bytes_eq a.0 b.0

-- the boxes in a meta
unfoldable pub children_at : BoxAt → Result (List BoxAt) ReadRefusal
children_at m = if nat_lt (length m.body) 4 then Err (BadRecord META m.at) else frames false (m.at + m.head + 4) (drop 4 m.body)

-- the rows of a file's boxes
unfoldable pub rows_of : List BoxAt → Result (List BoxRow) ReadRefusal
rows_of [] = Ok []
rows_of (b ∷ bs) =
    if is_kind b.kind META then (children_at b >>= λ children. Ok (row_of 0 b ∷ map (row_of 1) children ++ map (row_of 0) bs))
    else (rows_of bs >>= λ rows. Ok (row_of 0 b ∷ rows))

-- the rows of a file
unfoldable pub walk_at : List ℕ → Result (List BoxRow) ReadRefusal
walk_at file = do
  boxes ← frames true 0 file
  rows_of boxes
