-- What some properties say of a picture, and the properties that say so: ImageSpatialExtentsProperty, ImageRotation and
-- ImageMirror of ISO/IEC 23008-12, and CleanApertureBox of ISO/IEC 14496-12. Which bodies are looked at is this project's
-- own rule.
use Rattle.std.specs.Prelude.{ℕ, ◌+◌, ◌-◌, ◌*◌, ◌/◌, ◌%◌, ◌^◌, ◌&&◌, List, ◌++◌, length, ◌==◌, nat_lt, slice_index, Option, Some, None, if◌then◌else◌}
use Rattle.hf_base.specs.Number.{num, number_at}
use Rattle.hf_base.specs.declared.kinds.TheConstants.{ISPE, IROT, IMIR, CLAP}
use Rattle.hf_box.specs.Walk.{is_kind}
use Rattle.hf_prop.specs.declared.prop.Prop.{Prop}

-- ---- views

-- width and height, behind a version and flags
abbrev pub size_in : Prop → Option (ℕ × ℕ)
size_in p = if is_kind p.kind ISPE && (length p.body == 12) then Some (number_at 4 4 p.body, number_at 4 8 p.body) else None

-- quarter turns anticlockwise: the low two bits of the one byte
abbrev pub turn_in : Prop → Option ℕ
turn_in p = if is_kind p.kind IROT && (length p.body == 1) then Some (slice_index p.body 0 % 4) else None

-- the axis: the low bit of the one byte
abbrev pub axis_in : Prop → Option ℕ
axis_in p = if is_kind p.kind IMIR && (length p.body == 1) then Some (slice_index p.body 0 % 2) else None

-- a side of a window, as numerator and denominator: a whole number of at least 1
abbrev pub side_of : ℕ → ℕ → Option ℕ
side_of n d = if d == 0 then None else (if (n % d == 0) && nat_lt 0 n then Some (n / d) else None)

abbrev pub both_of : Option ℕ → Option ℕ → Option (ℕ × ℕ)
both_of None height = None
both_of (Some w) None = None
both_of (Some w) (Some h) = Some (w, h)

-- the window's width and height; where it lies is not looked at
abbrev pub sides_in : List ℕ → Option (ℕ × ℕ)
sides_in body = both_of (side_of (number_at 4 0 body) (number_at 4 4 body)) (side_of (number_at 4 8 body) (number_at 4 12 body))

abbrev pub window_in : Prop → Option (ℕ × ℕ)
window_in p = if is_kind p.kind CLAP && (length p.body == 32) then sides_in p.body else None

-- ---- makers

abbrev pub turn_by : ℕ → Prop
turn_by quarters = record { kind = IROT; body = num quarters 1 }

abbrev pub mirror_at : ℕ → Prop
mirror_at axis = record { kind = IMIR; body = num axis 1 }

-- the difference of two numbers, which may be below 0, as a signed number of four bytes in two's complement
abbrev pub signed_difference : ℕ → ℕ → ℕ
signed_difference plus minus = (plus + (256 ^ 4 - minus)) % 256 ^ 4

-- CleanApertureBox of ISO/IEC 14496-12, for a window of w by h whose first column is x and whose first row is y, in a
-- picture of this width and height. An offset is the distance of the two centres, and is stated in halves
unfoldable pub window_body : ℕ → ℕ → ℕ → ℕ → ℕ → ℕ → List ℕ
window_body x y w h width height =
    num w 4  -- cleanApertureWidthN
    ++ num 1 4  -- cleanApertureWidthD
    ++ num h 4  -- cleanApertureHeightN
    ++ num 1 4  -- cleanApertureHeightD
    ++ num (signed_difference (2 * x + w) width) 4  -- horizOffN
    ++ num 2 4  -- horizOffD
    ++ num (signed_difference (2 * y + h) height) 4  -- vertOffN
    ++ num 2 4  -- vertOffD

abbrev pub window_at : ℕ → ℕ → ℕ → ℕ → ℕ → ℕ → Prop
window_at x y w h width height = record { kind = CLAP; body = window_body x y w h width height }
