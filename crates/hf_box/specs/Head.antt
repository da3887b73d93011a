-- Boxes as they are written (ISO/IEC 14496-12, Box), with the shortest header.
use Rattle.std.specs.Prelude.{◌+◌, ◌^◌, ℕ, List, ◌++◌, length, nat_lt, if◌then◌else◌}
use Rattle.hf_base.specs.Number.{num}
use Rattle.hf_base.specs.declared.four.FourCc.{FourCc}
use Rattle.hf_box.specs.Boxes.{BoxAt}

-- the size of a box in bytes, header included, with a body of so many bytes
unfoldable pub box_len : ℕ → ℕ
box_len body = if nat_lt (8 + body) (256 ^ 4) then 8 + body else 16 + body

-- the header of a box with a body of so many bytes: the size in four bytes where it fits there, otherwise in eight
unfoldable pub box_head : FourCc → ℕ → List ℕ
box_head kind body =
    if nat_lt (8 + body) (256 ^ 4)
    then num (8 + body) 4 ++ kind.0
    else num 1 4 ++ kind.0 ++ num (16 + body) 8

-- a box as it is written
unfoldable pub box : FourCc → List ℕ → List ℕ
box kind body = box_head kind (length body) ++ body

-- the length of that header
unfoldable pub head_len : ℕ → ℕ
head_len body = if nat_lt (8 + body) (256 ^ 4) then 8 else 16

-- the box that is written so at this place
abbrev pub written_at : ℕ → FourCc → List ℕ → BoxAt
written_at place kind body = record { kind = kind; at = place; head = head_len (length body); body = body }
