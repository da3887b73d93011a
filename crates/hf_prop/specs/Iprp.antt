-- `iprp` and its `ipco`: ItemPropertiesBox and ItemPropertyContainerBox of ISO/IEC 23008-12. The order in which faults are
-- told, and that a box without `ipco` has no properties, are this project's own rule.
use Rattle.std.specs.Prelude.{◌≡◌, ◌<◌, ◌≤◌, ◌+◌, ◌^◌, ℕ, Bool, false, List, [], ◌∷◌, ◌++◌, length, map, nat_lt, Option, Some, None, Result, Ok, Err, IsTrue}
use Rattle.std.specs.List.{AllByRecursion, AllZip, flat_map}
use Rattle.std.specs.Option.{option_to_list}
use Rattle.hf_base.specs.Reading.{◌>>=◌}
use Rattle.hf_base.specs.Entries.{are_distinct}
use Rattle.hf_base.specs.declared.fault.ReadRefusal.{ReadRefusal}
use Rattle.hf_base.specs.declared.fault.ReadRefusal.TheVariants.{Double}
use Rattle.hf_base.specs.declared.kinds.TheConstants.{IPCO, IPMA}
use Rattle.hf_base.specs.declared.limits.TheConstants.{BOXES, ROWS}
use Rattle.hf_box.specs.Boxes.{BoxAt, IsBoxes}
use Rattle.hf_box.specs.Framing.{frames}
use Rattle.hf_box.specs.Head.{box}
use Rattle.hf_box.specs.Tables.{of_kind, boxes_from}
use Rattle.hf_prop.specs.declared.assoc.Assoc.{Assoc}
use Rattle.hf_prop.specs.declared.iprp.Iprp.{Iprp}
use Rattle.hf_prop.specs.declared.prop.Prop.{Prop}
use Rattle.hf_prop.specs.Ipma.{IsIpma, IsWritable, assoc_ids, assoc_rows, with_ipma, ipma_body}

-- ---- what stands in a box

-- a box of `ipco` is a property, with its whole body
abbrev pub prop_of : BoxAt → Prop
prop_of b = record { kind = b.kind; body = b.body }

-- the box has these properties, one for each inner box, in order
pub record IsIpco (b : BoxAt) (props : List Prop) : Type 0 where
  pub boxes : List BoxAt
  pub framed : IsBoxes b.body (b.at + b.head) false boxes
  pub is : props ≡ map prop_of boxes

-- without an `ipco` there are no properties
abbrev pub AreProps : Option BoxAt → List Prop → Type 0
AreProps None props = props ≡ []
AreProps (Some b) props = IsIpco b props

-- the box has at most one `ipco`, with these properties, and any number of `ipma`, which together have these entries;
-- its other boxes are free. No two entries have one id, whether it is that of an item or not
pub record IsIprp (b : BoxAt) (v : Iprp) : Type 0 where
  pub boxes : List BoxAt
  pub framed : IsBoxes b.body (b.at + b.head) false boxes
  pub ipco : Option BoxAt
  pub one : of_kind IPCO boxes ≡ option_to_list ipco
  pub props : AreProps ipco v.props
  pub tables : List (List Assoc)
  pub entries : AllZip (λ (m : BoxAt) (t : List Assoc). IsIpma m.body t) (of_kind IPMA boxes) tables
  pub assocs : v.assocs ≡ flat_map (λ t. t) tables
  pub distinct : IsTrue (are_distinct (assoc_ids v.assocs))

-- the boxes of `ipco` are within the limit
abbrev pub IpcoWithin : (ipco : Option BoxAt) (props : List Prop) → AreProps ipco props → Type 0
IpcoWithin None props r = Unit {0}
IpcoWithin (Some b) props r = length r.boxes ≤ BOXES

-- the box has these, its inner boxes and those of `ipco` are within the limit, and the rows of all `ipma` are so many at
-- most
pub record StandsWithin (most : ℕ) (b : BoxAt) (v : Iprp) : Type 0 where
  pub stands : IsIprp b v
  pub boxes : length stands.boxes ≤ BOXES
  pub ipco : IpcoWithin stands.ipco v.props stands.props
  pub rows : assoc_rows v.assocs ≤ most

abbrev pub IsIprpWithin : BoxAt → Iprp → Type 0
IsIprpWithin b v = StandsWithin ROWS b v

-- ---- the same, read from left to right

-- the one `ipco`, if there is one
unfoldable pub at_most_one : List BoxAt → Result (Option BoxAt) ReadRefusal
at_most_one [] = Ok None
at_most_one (b ∷ []) = Ok (Some b)
at_most_one (b ∷ c ∷ bs) = Err (Double IPCO c.at)

-- its properties
unfoldable pub props_at : Option BoxAt → Result (List Prop) ReadRefusal
props_at None = Ok []
props_at (Some b) = do
  boxes ← frames false (b.at + b.head) b.body
  Ok (map prop_of boxes)

-- the properties and entries of a box, or its fault; with so many rows at most
unfoldable pub iprp_within : ℕ → BoxAt → Result Iprp ReadRefusal
iprp_within most b = do
  boxes ← frames false (b.at + b.head) b.body
  ipco ← at_most_one (of_kind IPCO boxes)
  props ← props_at ipco
  assocs ← boxes_from (with_ipma most) [] (of_kind IPMA boxes)
  Ok (record { props = props; assocs = assocs })

abbrev pub iprp_at : BoxAt → Result Iprp ReadRefusal
iprp_at b = iprp_within ROWS b

-- ---- the body as it is written

-- the body of `ipco` with these properties, in order
unfoldable pub ipco_body : List Prop → List ℕ
ipco_body props = flat_map (λ (p : Prop). box p.kind p.body) props

-- associations take two bytes where 7 bits are too few for the number of the last property
abbrev pub is_long_table : List Prop → Bool
is_long_table props = nat_lt 127 (length props)

-- the body with these properties and entries
unfoldable pub iprp_body : Bool → Iprp → List ℕ
iprp_body wide v =
    box IPCO (ipco_body v.props)
    ++ box IPMA (ipma_body wide (is_long_table v.props) v.assocs)

-- what can be written: entries with distinct ids, within the limits, and a body that fits into a box
pub record IsWritten (wide : Bool) (v : Iprp) : Type 0 where
  pub kinds : AllByRecursion (λ (p : Prop). length p.kind.0 ≡ 4) v.props
  pub few : length v.props ≤ BOXES
  pub each : AllByRecursion (IsWritable wide (is_long_table v.props)) v.assocs
  pub distinct : IsTrue (are_distinct (assoc_ids v.assocs))
  pub rows : assoc_rows v.assocs ≤ ROWS
  pub size : 16 + length (iprp_body wide v) < 256 ^ 8
