-- Bytes as boxes (ISO/IEC 14496-12, Box), computed from left to right: the boxes, or the fault that is met first.
use Rattle.std.specs.Prelude.{◌||◌, ℕ, zero, suc, Bool, List, [], ◌∷◌, length, take, drop, Result, Ok, Err, nat_lt, ◌==◌, if◌then◌else◌}
use Rattle.hf_base.specs.Number.{number}
use Rattle.hf_base.specs.Reading.{◌>>=◌, four_at}
use Rattle.hf_base.specs.declared.fault.ReadRefusal.{ReadRefusal}
use Rattle.hf_base.specs.declared.fault.ReadRefusal.TheVariants.{Short, BadSize, OpenSize, TooManyBoxes}
use Rattle.hf_base.specs.declared.limits.TheConstants.{BOXES}
use Rattle.hf_box.specs.Boxes.{BoxAt, end_of}

-- the box with a header of so many bytes and this size at the front, and the bytes behind it
unfoldable pub cut : ℕ → ℕ → ℕ → List ℕ → Result (BoxAt × List ℕ) ReadRefusal
cut head size at bytes =
    if nat_lt size head || nat_lt (length bytes) size then Err (BadSize at)
    else Ok (record { kind = four_at 4 bytes; at = at; head = head; body = drop head (take size bytes) }, drop size bytes)

-- the box at the front, and the bytes behind it: size 0 reaches the end, and size 1 says that the size stands behind the type
unfoldable pub box_at : Bool → ℕ → List ℕ → Result (BoxAt × List ℕ) ReadRefusal
box_at top at bytes =
    if nat_lt (length bytes) 8 then Err (Short at)
    else if number 4 bytes == 0 then (if top then cut 8 (length bytes) at bytes else Err (OpenSize at))
    else if number 4 bytes == 1 then (if nat_lt (length bytes) 16 then Err (Short at) else cut 16 (number 8 (drop 8 bytes)) at bytes)
    else cut 8 (number 4 bytes) at bytes

-- the boxes that the bytes are, at most so many
unfoldable pub frames_within : ℕ → Bool → ℕ → List ℕ → Result (List BoxAt) ReadRefusal
frames_within limit top at [] = Ok []
frames_within zero top at (x ∷ xs) = Err (TooManyBoxes at)
frames_within (suc n) top at (x ∷ xs) = do
  first ← box_at top at (x ∷ xs)
  others ← frames_within n top (end_of first.0) first.1
  Ok (first.0 ∷ others)

-- the boxes that the bytes are, with places counted from origin; `top` says that they are those of a file
abbrev pub frames : Bool → ℕ → List ℕ → Result (List BoxAt) ReadRefusal
frames top origin bytes = frames_within BOXES top origin bytes
