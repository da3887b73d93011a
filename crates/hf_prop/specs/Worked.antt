-- Worked boxes and properties: what is read from each, or why it is refused, and how they are written.
use Rattle.std.specs.Prelude.{◌≡◌, ℕ, Bool, true, false, List, [], ◌∷◌, replicate, Some, None, Ok, Err}
use Prim.Native.String.{String as Text}
use Rattle.hf_base.specs.declared.fault.ReadRefusal.TheVariants.{Short, BadSize, BadRecord, BadVersion, Double, TooLarge, DoubleAssoc}
use Rattle.hf_base.specs.declared.four.FourCc.{FourCc}
use Rattle.hf_base.specs.declared.kinds.TheConstants.{IPRP, IPCO, IPMA, ISPE, IROT, IMIR, CLAP}
use Rattle.hf_box.specs.Boxes.{BoxAt}
use Rattle.hf_box.specs.Literals.{hex_of}
use Rattle.hf_prop.specs.declared.assoc.Assoc.{Assoc}
use Rattle.hf_prop.specs.declared.assoc.Pick.{Pick}
use Rattle.hf_prop.specs.declared.iprp.Iprp.{Iprp}
use Rattle.hf_prop.specs.declared.prop.Prop.{Prop}
use Rattle.hf_prop.specs.Ipma.{ipma_body}
use Rattle.hf_prop.specs.Iprp.{iprp_at, iprp_within, iprp_body, is_long_table}
use Rattle.hf_prop.specs.Views.{size_in, turn_in, axis_in, window_in, window_at}

abbrev pub prop : FourCc → Text → Prop
prop kind text = record { kind = kind; body = hex_of text }

abbrev pub pick : Bool → ℕ → Pick
pick essential index = record { essential = essential; index = index }

abbrev pub assoc : ℕ → List Pick → Assoc
assoc item picks = record { item = item; picks = picks }

abbrev pub iprp : List Prop → List Assoc → Iprp
iprp props assocs = record { props = props; assocs = assocs }

-- an `iprp` at place 100, whose first inner box is at 108
abbrev pub box_100 : Text → BoxAt
box_100 text = record { kind = IPRP; at = 100; head = 8; body = hex_of text }

-- ---- what is read

-- two properties, and two `ipma`: ids of two bytes with associations of one, and ids of four with associations of two.
-- The number 0, and one past the properties, are read as they stand
abbrev pub ReadsBothWidths : Type 0
ReadsBothWidths =
    iprp_at (box_100 "0000001a 6970636f 00000009 69726f74 01 00000009 696d6972 00 00000015 69706d61 00000000 00000001 0001 02 81 02 0000001b 69706d61 01000001 00000001 00011170 03 8001 0000 7fff")
    ≡ Ok (iprp (prop IROT "01" ∷ prop IMIR "00" ∷ []) (assoc 1 (pick true 1 ∷ pick false 2 ∷ []) ∷ assoc 70000 (pick true 1 ∷ pick false 0 ∷ pick false 32767 ∷ []) ∷ []))

-- without an `ipco` there are no properties, and without an `ipma` no entries; another box is free
abbrev pub ReadsNeither : Type 0
ReadsNeither = iprp_at (box_100 "00000009 66726565 07") ≡ Ok (iprp [] [])

-- flag 2 does not say that associations take two bytes; an entry may have none, and what follows the entries is free
abbrev pub ReadsFlagTwo : Type 0
ReadsFlagTwo = iprp_at (box_100 "00000019 69706d61 00fffffe 00000002 0001 01 80 0002 00 ffff") ≡ Ok (iprp [] (assoc 1 (pick true 0 ∷ []) ∷ assoc 2 [] ∷ []))

-- as many rows as there may be: two entries in two `ipma`, and an association
abbrev pub ReadsFullTable : Type 0
ReadsFullTable =
    iprp_within 3 (box_100 "00000013 69706d61 00000000 00000001 0001 00 00000014 69706d61 00000000 00000001 0002 01 07") ≡ Ok (iprp [] (assoc 1 [] ∷ assoc 2 (pick false 7 ∷ []) ∷ []))

-- ---- why a box is refused

-- a box passes the end, behind a second `ipco`
abbrev pub RefusesFraming : Type 0
RefusesFraming = iprp_at (box_100 "00000008 6970636f 00000008 6970636f 00000009 69706d61") ≡ Err (BadSize 124)

-- a second `ipco`, where the first has a fault
abbrev pub RefusesSecondIpco : Type 0
RefusesSecondIpco = iprp_at (box_100 "0000000a 6970636f 0000 00000008 66726565 00000008 6970636f") ≡ Err (Double IPCO 126)

-- a fault in `ipco`, behind an `ipma` that has one
abbrev pub RefusesIpco : Type 0
RefusesIpco = iprp_at (box_100 "00000008 69706d61 0000000a 6970636f 0000") ≡ Err (Short 124)

-- one byte is too few for a version and flags
abbrev pub RefusesNoFlags : Type 0
RefusesNoFlags = iprp_at (box_100 "0000000b 69706d61 020000") ≡ Err (BadRecord IPMA 108)

-- the version comes before what is missing behind it
abbrev pub RefusesVersion : Type 0
RefusesVersion = iprp_at (box_100 "0000000c 69706d61 02000000") ≡ Err (BadVersion IPMA 108)

-- the count of the entries is missing
abbrev pub RefusesNoCount : Type 0
RefusesNoCount = iprp_at (box_100 "0000000f 69706d61 01000000 000000") ≡ Err (BadRecord IPMA 108)

-- the id of an entry is missing, or the count of its associations
abbrev pub RefusesNoId : Type 0
RefusesNoId = iprp_at (box_100 "00000013 69706d61 01000000 00000001 000000") ≡ Err (BadRecord IPMA 108)

abbrev pub RefusesNoAssociations : Type 0
RefusesNoAssociations = iprp_at (box_100 "00000012 69706d61 00000000 00000001 0001") ≡ Err (BadRecord IPMA 108)

-- a count of associations is one too many, also where they are missing, and the id is that of an earlier entry
abbrev pub RefusesRows : Type 0
RefusesRows = iprp_within 3 (box_100 "00000013 69706d61 00000000 00000001 0001 00 00000013 69706d61 00000000 00000001 0001 02") ≡ Err (TooLarge IPMA 127)

-- half an association is missing, in an entry with the id of an earlier one
abbrev pub RefusesShortAssociation : Type 0
RefusesShortAssociation = iprp_at (box_100 "00000017 69706d61 00000001 00000002 0001 00 0001 01 80") ≡ Err (BadRecord IPMA 108)

-- a second entry with an id, in another `ipma`
abbrev pub RefusesSecondEntry : Type 0
RefusesSecondEntry = iprp_at (box_100 "00000013 69706d61 00000000 00000001 0007 00 00000015 69706d61 01000000 00000002 00000007 00") ≡ Err (DoubleAssoc 7)

-- ---- how they are written

-- no property, and no entry
abbrev pub WritesNeither : Type 0
WritesNeither = iprp_body false (iprp [] []) ≡ hex_of "00000008 6970636f 00000010 69706d61 00000000 00000000"

-- a property of an item, with ids of four bytes
abbrev pub WritesWide : Type 0
WritesWide =
    iprp_body true (iprp (prop IROT "01" ∷ []) (assoc 70000 (pick true 1 ∷ []) ∷ []))
    ≡ hex_of "00000011 6970636f 00000009 69726f74 01 00000016 69706d61 01000000 00000001 00011170 01 81"

-- associations of two bytes
abbrev pub WritesLong : Type 0
WritesLong = ipma_body false true (assoc 1 (pick true 128 ∷ pick false 1 ∷ []) ∷ []) ≡ hex_of "00000001 00000001 0001 02 8080 0001"

-- which are written from 128 properties on
abbrev pub LongTables : Type 0
LongTables = (is_long_table (replicate 127 (prop IROT "01")) ≡ false) × (is_long_table (replicate 128 (prop IROT "01")) ≡ true)

-- ---- what properties say

abbrev pub SaysSize : Type 0
SaysSize = size_in (prop ISPE "ff000001 00000fc0 00000bd0") ≡ Some (4032, 3024)

-- only an `ispe` of exactly 12 bytes has a size
abbrev pub SaysNoSize : Type 0
SaysNoSize = (size_in (prop ISPE "00000000 00000fc0 00000bd0 00") ≡ None) × (size_in (prop ISPE "00000000 00000fc0 00000b") ≡ None) × (size_in (prop CLAP "00000000 00000fc0 00000bd0") ≡ None)

abbrev pub SaysTurn : Type 0
SaysTurn = (turn_in (prop IROT "ff") ≡ Some 3) × (turn_in (prop IROT "0100") ≡ None) × (turn_in (prop IROT "") ≡ None) × (turn_in (prop IMIR "01") ≡ None)

abbrev pub SaysAxis : Type 0
SaysAxis = (axis_in (prop IMIR "ff") ≡ Some 1) × (axis_in (prop IMIR "fe") ≡ Some 0) × (axis_in (prop IMIR "0100") ≡ None) × (axis_in (prop IROT "01") ≡ None)

-- 4000 / 2 by 3000 / 3, wherever it lies
abbrev pub SaysWindow : Type 0
SaysWindow = window_in (prop CLAP "00000fa0 00000002 00000bb8 00000003 fffff810 00000000 fffff818 00000000") ≡ Some (2000, 1000)

-- a denominator of 0, half a column, no row, a body that is too long
abbrev pub SaysNoWindow : Type 0
SaysNoWindow =
    (window_in (prop CLAP "000007d0 00000000 000003e8 00000001 00000000 00000001 00000000 00000001") ≡ None)
    × (window_in (prop CLAP "000007d1 00000002 000003e8 00000001 00000000 00000001 00000000 00000001") ≡ None)
    × (window_in (prop CLAP "000007d0 00000001 00000000 00000001 00000000 00000001 00000000 00000001") ≡ None)
    × (window_in (prop CLAP "000007d0 00000001 000003e8 00000001 00000000 00000001 00000000 00000001 00") ≡ None)
    × (window_in (prop ISPE "000007d0 00000001 000003e8 00000001 00000000 00000001 00000000 00000001") ≡ None)

-- the window of 2000 by 1000 in the upper left corner of 4032 by 3024: its centre lies left of and above that of the picture
abbrev pub MakesCorner : Type 0
MakesCorner = window_at 0 0 2000 1000 4032 3024 ≡ prop CLAP "000007d0 00000001 000003e8 00000001 fffff810 00000002 fffff818 00000002"

-- the window of 2000 by 1000 in the lower right corner
abbrev pub MakesOtherCorner : Type 0
MakesOtherCorner = window_at 2032 2024 2000 1000 4032 3024 ≡ prop CLAP "000007d0 00000001 000003e8 00000001 000007f0 00000002 000007e8 00000002"
