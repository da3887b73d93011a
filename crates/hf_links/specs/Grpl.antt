-- `grpl`: GroupsListBox of ISO/IEC 14496-12. The order in which faults are told, and the limit of rows, are this
-- project's own rule.
use Rattle.std.specs.Prelude.{◌≡◌, ◌<◌, ◌≤◌, ◌+◌, ◌^◌, ℕ, false, List, [], ◌∷◌, ◌++◌, length, map, nat_lt, Result, Ok, IsTrue}
use Rattle.std.specs.List.{AllByRecursion, AllZip, flat_map, sum_by}
use Rattle.hf_base.specs.Number.{num}
use Rattle.hf_base.specs.Reading.{◌>>=◌, front, front_full, full, times}
use Rattle.hf_base.specs.Entries.{AreTexts, IsNum, has_id, are_distinct, refuse_if}
use Rattle.hf_base.specs.declared.four.FourCc.{FourCc}
use Rattle.hf_base.specs.declared.fault.ReadRefusal.{ReadRefusal}
use Rattle.hf_base.specs.declared.fault.ReadRefusal.TheVariants.{BadRecord, TooLarge, DoubleGroup}
use Rattle.hf_base.specs.declared.kinds.TheConstants.{GRPL}
use Rattle.hf_base.specs.declared.limits.TheConstants.{BOXES, ROWS}
use Rattle.hf_box.specs.Boxes.{BoxAt, IsBoxes}
use Rattle.hf_box.specs.Framing.{frames}
use Rattle.hf_box.specs.Head.{box}
use Rattle.hf_box.specs.Tables.{boxes_from}
use Rattle.hf_links.specs.declared.grpl.Group.{Group as GroupView}

-- an entity group: a box of `grpl`, with the bytes after its entities
pub record Group : Type 0 where
  pub kind : FourCc
  pub version : ℕ
  pub flags : ℕ
  pub id : ℕ
  pub entities : List ℕ
  pub tail : List ℕ

-- the group that a view shows
abbrev pub group_of : GroupView → Group
group_of g = record { kind = g.kind; version = g.version; flags = g.flags; id = g.id; entities = g.entities; tail = g.tail.now }

abbrev pub groups_of : List GroupView → List Group
groups_of groups = map group_of groups

-- the box is this group (EntityToGroupBox): its type, its version and flags, the group's id, the count of its entities,
-- their ids, and a tail to the end
pub record IsGroup (b : BoxAt) (g : Group) : Type 0 where
  pub kind : g.kind ≡ b.kind
  pub version : g.version < 256 ^ 1
  pub flags : g.flags < 256 ^ 3
  pub id : g.id < 256 ^ 4
  pub count : length g.entities < 256 ^ 4
  pub ids : List ℕ
  pub is : b.body ≡ full g.version g.flags ++ (num g.id 4 ++ (num (length g.entities) 4 ++ (ids ++ g.tail)))
  pub entities : AreTexts (IsNum 4) ids g.entities

abbrev pub group_ids : List Group → List ℕ
group_ids groups = map (λ (g : Group). g.id) groups

-- groups and entities, counted
abbrev pub group_rows : List Group → ℕ
group_rows groups = sum_by (λ (g : Group). 1 + length g.entities) groups

-- the box has these groups, one for each inner box, in order; no two have one id
pub record IsGrpl (b : BoxAt) (groups : List Group) : Type 0 where
  pub boxes : List BoxAt
  pub framed : IsBoxes b.body (b.at + b.head) false boxes
  pub each : AllZip IsGroup boxes groups
  pub distinct : IsTrue (are_distinct (group_ids groups))

-- the box has these groups, and its inner boxes and rows are within the limits
abbrev pub IsGrplWithin : BoxAt → List Group → Type 0
IsGrplWithin b groups = (r : IsGrpl b groups) × (length r.boxes ≤ BOXES) × (group_rows groups ≤ ROWS)

-- ---- the same, read from left to right

-- the group of an inner box with these fields in front of its entities, read from the bytes behind them
abbrev pub group_behind : BoxAt → ℕ → ℕ → ℕ → ℕ → List ℕ → Result Group ReadRefusal
group_behind b version flags id count bytes = do
  entities ← times (front 4 (BadRecord GRPL b.at)) count bytes
  Ok (record { kind = b.kind; version = version; flags = flags; id = id; entities = entities.0; tail = entities.1 })

-- the group of an inner box behind so many rows, or its fault, which has the place of that box
unfoldable pub group_at : ℕ → BoxAt → Result Group ReadRefusal
group_at rows b = do
  version ← front_full (BadRecord GRPL b.at) b.body
  id ← front 4 (BadRecord GRPL b.at) version.1
  count ← front 4 (BadRecord GRPL b.at) id.1
  few ← refuse_if (nat_lt ROWS (rows + 1 + count.0)) (TooLarge GRPL b.at)
  entities ← times (front 4 (BadRecord GRPL b.at)) count.0 count.1
  Ok (record { kind = b.kind; version = version.0.0; flags = version.0.1; id = id.0; entities = entities.0; tail = entities.1 })

-- the same, where its id is none of these
unfoldable pub new_group_at : ℕ → List ℕ → BoxAt → Result Group ReadRefusal
new_group_at rows seen b = do
  group ← group_at rows b
  new ← refuse_if (has_id group.id seen) (DoubleGroup group.id)
  Ok group

-- the groups before, and that of an inner box, where it is a new one
unfoldable pub with_group : List Group → BoxAt → Result (List Group) ReadRefusal
with_group earlier b = do
  group ← group_at (group_rows earlier) b
  new ← refuse_if (has_id group.id (group_ids earlier)) (DoubleGroup group.id)
  Ok (earlier ++ group ∷ [])

-- the groups of a box, or its fault
unfoldable pub grpl_at : BoxAt → Result (List Group) ReadRefusal
grpl_at b = do
  boxes ← frames false (b.at + b.head) b.body
  boxes_from with_group [] boxes

-- ---- the body as it is written

-- EntityToGroupBox of ISO/IEC 14496-12; its ids take four bytes, wide or not
unfoldable pub group_body : Group → List ℕ
group_body g =
    full g.version g.flags
    ++ num g.id 4  -- group_id
    ++ num (length g.entities) 4  -- num_entities_in_group
    ++ flat_map (λ id. num id 4) g.entities  -- entity_id
    ++ g.tail

abbrev pub group_box : Group → List ℕ
group_box g = box g.kind (group_body g)

-- the body of `grpl` with these groups, in order
unfoldable pub grpl_body : List Group → List ℕ
grpl_body groups = flat_map group_box groups

-- what can be written of a group: its fields have their widths, and its box a size
pub record IsWritable (g : Group) : Type 0 where
  pub kind : length g.kind.0 ≡ 4
  pub version : g.version < 256 ^ 1
  pub flags : g.flags < 256 ^ 3
  pub id : g.id < 256 ^ 4
  pub count : length g.entities < 256 ^ 4
  pub entities : AllByRecursion (λ id. id < 256 ^ 4) g.entities
  pub size : 16 + length (group_body g) < 256 ^ 8
