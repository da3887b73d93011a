-- The size of an item's picture, and how its last properties turn, mirror and cut it. These rules are this project's own.
use Rattle.std.specs.Prelude.{ℕ, ◌+◌, ◌-◌, ◌^◌, ◌%◌, ◌==◌, Bool, true, ◌&&◌, ◌||◌, List, [], ◌∷◌, ◌++◌, length, take, fold, slice_get, Option, Some, None, option_map, nat_lt, if◌then◌else◌}
use Rattle.std.specs.Option.{option_and_then}
use Rattle.hf_base.specs.declared.kinds.TheConstants.{CLAP, IROT, ISPE}
use Rattle.hf_prop.specs.Views.{axis_in, mirror_at, size_in, turn_by, turn_in, window_at, window_in}
use Rattle.hf_store.specs.Store.{Held, Item, Prop}
use Rattle.hf_table.specs.Held.{is_of}

-- ---- the size of a picture

abbrev pub swapped : ℕ × ℕ → ℕ × ℕ
swapped size = (size.1, size.0)

-- the sides after a turn: an odd one swaps them
abbrev pub turned : ℕ × ℕ → ℕ → ℕ × ℕ
turned size quarters = if quarters % 2 == 1 then swapped size else size

-- the sides before a property, and those behind it: an `irot` turns them, and a `clap` sets them. Where one of these says
-- nothing there are none
abbrev pub sized_by : Option (ℕ × ℕ) → Held → Option (ℕ × ℕ)
sized_by None h = None
sized_by (Some size) h =
    if is_of IROT h then option_map (turned size) (turn_in h.prop)
    else (if is_of CLAP h then window_in h.prop else Some size)

-- the sides that the first property of type `ispe` states
abbrev pub first_size : List Held → Option (ℕ × ℕ)
first_size [] = None
first_size (h ∷ hs) = if is_of ISPE h then size_in h.prop else first_size hs

-- neither side is 0 or above 2^31 - 1
abbrev pub are_sides : ℕ × ℕ → Bool
are_sides size = nat_lt 0 size.0 && nat_lt size.0 (2 ^ 31) && nat_lt 0 size.1 && nat_lt size.1 (2 ^ 31)

abbrev pub when_sides : ℕ × ℕ → Option (ℕ × ℕ)
when_sides size = if are_sides size then Some size else None

-- the width and height of an item's picture: those of the first `ispe`, then as each `irot` and `clap` of the whole list has
-- it, in order
unfoldable pub picture_size_of : Item → Option (ℕ × ℕ)
picture_size_of i = option_and_then when_sides (fold sized_by (first_size i.props) i.props)

-- ---- other properties at the end of a list

abbrev pub essential : Prop → Held
essential p = record { essential = true; prop = p }

-- the last property, and those before it
abbrev pub last_of : List Held → Option Held
last_of hs = slice_get hs (length hs - 1)

abbrev pub all_but_last : List Held → List Held
all_but_last hs = take (length hs - 1) hs

-- the turn that the last property states, and the axis
abbrev pub last_turn : List Held → Option ℕ
last_turn hs = option_and_then (λ (h : Held). turn_in h.prop) (last_of hs)

abbrev pub last_axis : List Held → Option ℕ
last_axis hs = option_and_then (λ (h : Held). axis_in h.prop) (last_of hs)

-- an essential turn, and nothing for one of 0
abbrev pub turn_unless_none : ℕ → List Held
turn_unless_none quarters = if quarters == 0 then [] else essential (turn_by quarters) ∷ []

-- a turn stands for the last one and this one together, or is one more property
abbrev pub rotated_behind : Option ℕ → ℕ → List Held → List Held
rotated_behind None quarters hs = hs ++ essential (turn_by quarters) ∷ []
rotated_behind (Some turn) quarters hs = all_but_last hs ++ turn_unless_none ((turn + quarters) % 4)

unfoldable pub rotated : ℕ → List Held → List Held
rotated quarters hs = rotated_behind (last_turn hs) quarters hs

-- a mirror at the axis of the last one undoes it, and is one more property otherwise
abbrev pub mirrored_behind : Option ℕ → ℕ → List Held → List Held
mirrored_behind None axis hs = hs ++ essential (mirror_at axis) ∷ []
mirrored_behind (Some last) axis hs = if last == axis then all_but_last hs else hs ++ essential (mirror_at axis) ∷ []

unfoldable pub mirrored : ℕ → List Held → List Held
mirrored axis hs = mirrored_behind (last_axis hs) axis hs

-- the window is one more property of a picture of this size; none of a picture whose size is not known
abbrev pub cropped_in : Option (ℕ × ℕ) → ℕ → ℕ → ℕ → ℕ → List Held → List Held
cropped_in None x y w h hs = hs
cropped_in (Some size) x y w h hs = hs ++ essential (window_at x y w h size.0 size.1) ∷ []

unfoldable pub cropped : ℕ → ℕ → ℕ → ℕ → Item → List Held
cropped x y w h i = cropped_in (picture_size_of i) x y w h i.props

-- a window of w by h whose first column is x and whose first row is y is empty, or reaches beyond a picture of this size
abbrev pub is_outside : ℕ → ℕ → ℕ → ℕ → Option (ℕ × ℕ) → Bool
is_outside x y w h None = true
is_outside x y w h (Some size) = (w == 0) || (h == 0) || nat_lt size.0 (x + w) || nat_lt size.1 (y + h)
