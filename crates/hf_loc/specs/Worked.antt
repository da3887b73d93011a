-- Worked bodies: what is read from each, or why it is refused, and how entries are written.
use Rattle.std.specs.Prelude.{◌≡◌, ℕ, true, false, List, [], ◌∷◌, Ok, Err}
use Rattle.hf_base.specs.declared.fault.ReadRefusal.TheVariants.{BadRecord, BadVersion, BadWidth, TooLarge, DoubleLocation}
use Rattle.hf_base.specs.declared.kinds.TheConstants.{ILOC}
use Rattle.hf_base.specs.declared.loc.Extent.{Extent}
use Rattle.hf_base.specs.declared.loc.Loc.{Loc}
use Rattle.hf_box.specs.Literals.{hex_of}
use Rattle.hf_loc.specs.Iloc.{iloc_at, iloc_within, Entry, iloc_body}

abbrev pub extent : ℕ → ℕ → ℕ → Extent
extent index offset size = record { index = index; offset = offset; length = size }

abbrev pub loc : ℕ → ℕ → ℕ → ℕ → List Extent → Loc
loc id method dref base extents = record { id = id; method = method; dref = dref; base = base; extents = extents }

-- ---- what is read

-- the body of the worked file, whose item 1 has three bytes from 190 on
abbrev pub ReadsWorkedFile : Type 0
ReadsWorkedFile =
    iloc_at 150 (hex_of "01000000 44 00 0001 0001 0000 0000 0001 000000be 00000003") ≡ Ok (loc 1 0 0 0 (extent 1 190 3 ∷ []) ∷ [])

-- extents keep their order, and an entry may have none; what follows is free
abbrev pub ReadsExtents : Type 0
ReadsExtents =
    iloc_at 0 (hex_of "01000000 44 00 0002 0002 0000 0000 0002 00000014 00000003 0000000a 00000005 0003 0001 0000 0000 ff")
    ≡ Ok (loc 2 0 0 0 (extent 1 20 3 ∷ extent 1 10 5 ∷ []) ∷ loc 3 1 0 0 [] ∷ [])

-- version 0 has no method and no index, and does not look at the width of one
abbrev pub ReadsVersionZero : Type 0
ReadsVersionZero =
    iloc_at 0 (hex_of "00000000 40 47 0001 0005 0003 00000100 0002 00000001 00000002")
    ≡ Ok (loc 5 0 3 256 (extent 1 1 0 ∷ extent 1 2 0 ∷ []) ∷ [])

-- version 2 has ids of four bytes; the flags, and the high bits of a method, are free; an index of four bytes may be 0
abbrev pub ReadsVersionTwo : Type 0
ReadsVersionTwo =
    iloc_at 0 (hex_of "02abcdef 08 84 00000001 00011170 fff2 0000 0000000000000007 0002 00000000 0000000000000009 00000002 000000000000000a")
    ≡ Ok (loc 70000 2 0 7 (extent 0 0 9 ∷ extent 2 0 10 ∷ []) ∷ [])

-- where all widths are 0, extents take no byte
abbrev pub ReadsNoBytes : Type 0
ReadsNoBytes = iloc_at 0 (hex_of "00000000 00 00 0001 0001 0000 0002") ≡ Ok (loc 1 0 0 0 (extent 1 0 0 ∷ extent 1 0 0 ∷ []) ∷ [])

-- as many rows as there may be: an entry, and its two extents
abbrev pub ReadsFullTable : Type 0
ReadsFullTable =
    iloc_within 3 0 (hex_of "01000000 40 00 0001 0001 0000 0000 0002 00000001 00000002")
    ≡ Ok (loc 1 0 0 0 (extent 1 1 0 ∷ extent 1 2 0 ∷ []) ∷ [])

-- ---- why a body is refused

-- one byte is too few for a version and flags
abbrev pub RefusesNoFlags : Type 0
RefusesNoFlags = iloc_at 9 (hex_of "030000") ≡ Err (BadRecord ILOC 9)

-- the version comes before what is missing behind it
abbrev pub RefusesVersion : Type 0
RefusesVersion = iloc_at 9 (hex_of "03000000") ≡ Err (BadVersion ILOC 9)

-- the count is missing, in front of which a width is none
abbrev pub RefusesNoCount : Type 0
RefusesNoCount = iloc_at 9 (hex_of "02000000 34 00 0001") ≡ Err (BadRecord ILOC 9)

-- a width of 3 bytes for offsets, lengths, bases or indexes
abbrev pub RefusesOffsetWidth : Type 0
RefusesOffsetWidth = iloc_at 150 (hex_of "01000000 34 00 0001 0001 0000 0000 0001 000000be 00000003") ≡ Err (BadWidth 150)

abbrev pub RefusesLengthWidth : Type 0
RefusesLengthWidth = iloc_at 150 (hex_of "01000000 43 00 0001") ≡ Err (BadWidth 150)

abbrev pub RefusesBaseWidth : Type 0
RefusesBaseWidth = iloc_at 150 (hex_of "00000000 44 30 0001") ≡ Err (BadWidth 150)

abbrev pub RefusesIndexWidth : Type 0
RefusesIndexWidth = iloc_at 150 (hex_of "01000000 44 03 0001") ≡ Err (BadWidth 150)

-- the fields of an entry in front of its extents are missing
abbrev pub RefusesShortEntry : Type 0
RefusesShortEntry = iloc_at 9 (hex_of "01000000 44 00 0001 0001 0000 0000 00") ≡ Err (BadRecord ILOC 9)

-- a count of extents is one too many, also where the extents are missing
abbrev pub RefusesRows : Type 0
RefusesRows = iloc_within 3 9 (hex_of "01000000 44 00 0001 0001 0000 0000 0003") ≡ Err (TooLarge ILOC 9)

-- an entry is one too many, also where it has no extent, and its id is that of an earlier one
abbrev pub RefusesEntryRow : Type 0
RefusesEntryRow = iloc_within 2 9 (hex_of "01000000 40 00 0002 0001 0000 0000 0001 00000001 0001 0000 0000 0000") ≡ Err (TooLarge ILOC 9)

-- an extent is missing, in an entry with the id of an earlier one
abbrev pub RefusesShortExtents : Type 0
RefusesShortExtents = iloc_at 9 (hex_of "01000000 40 00 0002 0001 0000 0000 0000 0001 0000 0000 0001 000000") ≡ Err (BadRecord ILOC 9)

-- a second entry with an id, in front of one that is missing
abbrev pub RefusesSecondEntry : Type 0
RefusesSecondEntry = iloc_at 9 (hex_of "01000000 40 00 0004 0007 0000 0000 0000 0001 0000 0000 0000 0007 0000 0000 0001 00000001") ≡ Err (DoubleLocation 7)

-- ---- how entries are written

abbrev pub entry : ℕ → ℕ → ℕ → ℕ → Entry
entry id method offset size = record { id = id; method = method; offset = offset; length = size }

-- the body of the worked file
abbrev pub WritesWorkedFile : Type 0
WritesWorkedFile = iloc_body false 4 (entry 1 0 190 3 ∷ []) ≡ hex_of "01000000 44 00 0001 0001 0000 0000 0001 000000be 00000003"

-- wide ids and long numbers
abbrev pub WritesWideAndLong : Type 0
WritesWideAndLong =
    iloc_body true 8 (entry 1 1 2 3 ∷ entry 70000 0 4294967296 5 ∷ [])
    ≡ hex_of "02000000 88 00 00000002 00000001 0001 0000 0001 0000000000000002 0000000000000003 00011170 0000 0000 0001 0000000100000000 0000000000000005"
