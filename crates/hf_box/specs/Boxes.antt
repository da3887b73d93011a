-- Bytes as a list of boxes (ISO/IEC 14496-12, Box), and the first place at which they are none.
use Rattle.std.specs.Prelude.{◌≡◌, ◌⊎◌, ◌+◌, ◌^◌, ◌<◌, ◌≤◌, ℕ, Bool, true, false, ◌&&◌, IsTrue, List, [], ◌∷◌, ◌++◌, length, drop, map}
use Rattle.hf_base.specs.Number.{num, number}
use Rattle.hf_base.specs.declared.four.FourCc.{FourCc}
use Rattle.hf_base.specs.declared.fault.ReadRefusal.{ReadRefusal}
use Rattle.hf_base.specs.declared.fault.ReadRefusal.TheVariants.{Short, BadSize, OpenSize, TooManyBoxes}
use Rattle.hf_base.specs.declared.limits.TheConstants.{BOXES}
use Rattle.hf_box.specs.declared.view.BoxView.{BoxView}

-- a box: its type, its place in bytes, the length of its header, and its body
pub record BoxAt : Type 0 where
  pub kind : FourCc
  pub at : ℕ
  pub head : ℕ
  pub body : List ℕ

-- the place behind a box
abbrev pub end_of : BoxAt → ℕ
end_of b = b.at + b.head + length b.body

-- the box that a view shows
abbrev pub box_of : BoxView → BoxAt
box_of b = record { kind = b.kind; at = b.at; head = b.head; body = b.body.now }

abbrev pub boxes_of : List BoxView → List BoxAt
boxes_of bs = map box_of bs

-- the first spelling: the size, header included, in four bytes, then the type
abbrev pub compact : FourCc → List ℕ → List ℕ
compact kind body = num (8 + length body) 4 ++ kind.0 ++ body

-- the second: size 1, the type, and then the size, header included, in eight bytes
abbrev pub long : FourCc → List ℕ → List ℕ
long kind body = num 1 4 ++ kind.0 ++ num (16 + length body) 8 ++ body

-- the third: size 0, and the box reaches the end of the file
abbrev pub open_ended : FourCc → List ℕ → List ℕ
open_ended kind body = num 0 4 ++ kind.0 ++ body

-- the text spells the box; `last` says that it may reach the end of the file
abbrev pub IsSpelling : Bool → BoxAt → List ℕ → Type 0
IsSpelling last b text =
    ((b.head ≡ 8) × (8 + length b.body < 256 ^ 4) × (text ≡ compact b.kind b.body))
    ⊎ ((b.head ≡ 16) × (16 + length b.body < 256 ^ 8) × (text ≡ long b.kind b.body))
    ⊎ (IsTrue last × (b.head ≡ 8) × (text ≡ open_ended b.kind b.body))

abbrev pub is_nil : List BoxAt → Bool
is_nil [] = true
is_nil (b ∷ bs) = false

-- the bytes are spellings of these boxes, one behind the other, with places counted from origin; where `top` says that
-- they are the boxes of a file, the last one may reach its end
abbrev pub IsBoxes : List ℕ → ℕ → Bool → List BoxAt → Type 0
IsBoxes bytes origin top [] = bytes ≡ []
IsBoxes bytes origin top (b ∷ bs) =
    (text rest : List ℕ) × (bytes ≡ text ++ rest) × (b.at ≡ origin) × (length b.kind.0 ≡ 4)
    × IsSpelling (top && is_nil bs) b text × IsBoxes rest (origin + length text) top bs

-- the header is cut off: 1 to 7 bytes are left, or the size is 1 and fewer than 16 are left
abbrev pub IsShort : List ℕ → Type 0
IsShort bytes = ((0 < length bytes) × (length bytes < 8)) ⊎ ((8 ≤ length bytes) × (number 4 bytes ≡ 1) × (length bytes < 16))

-- the size is less than its header, or the box passes the end
abbrev pub IsBadSize : List ℕ → Type 0
IsBadSize bytes =
    (8 ≤ length bytes)
    × (((2 ≤ number 4 bytes) × ((number 4 bytes < 8) ⊎ (length bytes < number 4 bytes)))
    ⊎ ((number 4 bytes ≡ 1) × (16 ≤ length bytes) × ((number 8 (drop 8 bytes) < 16) ⊎ (length bytes < number 8 (drop 8 bytes)))))

-- the size is 0, inside another box
abbrev pub IsOpenInside : Bool → List ℕ → Type 0
IsOpenInside top bytes = (8 ≤ length bytes) × (number 4 bytes ≡ 0) × (top ≡ false)

-- the bytes at this place begin with no box, for this reason
abbrev pub BeginsNoBox : Bool → ℕ → List ℕ → ReadRefusal → Type 0
BeginsNoBox top place bytes (Short at) = (at ≡ place) × IsShort bytes
BeginsNoBox top place bytes (BadSize at) = (at ≡ place) × IsBadSize bytes
BeginsNoBox top place bytes (OpenSize at) = (at ≡ place) × IsOpenInside top bytes
BeginsNoBox top place bytes _ = ⊥

-- at most so many boxes stand before a place, and there the bytes begin with no box, or with one box too many
abbrev pub IsFaultWithin : ℕ → List ℕ → ℕ → Bool → ReadRefusal → Type 0
IsFaultWithin limit bytes origin top fault =
    (boxes : List BoxAt) × (front rest : List ℕ) × (bytes ≡ front ++ rest) × IsBoxes front origin false boxes
    × (((length boxes < limit) × BeginsNoBox top (origin + length front) rest fault)
    ⊎ ((length boxes ≡ limit) × (0 < length rest) × (fault ≡ TooManyBoxes (origin + length front))))

-- the fault at the first place that has one; the limit and the names of the faults are this project's own
abbrev pub FrameFault : List ℕ → ℕ → Bool → ReadRefusal → Type 0
FrameFault bytes origin top fault = IsFaultWithin BOXES bytes origin top fault
