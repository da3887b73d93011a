-- Worked spellings of boxes, byte by byte as ISO/IEC 14496-12 (Box) lays them, and texts of literals.
use Rattle.std.specs.Prelude.{ℕ, List, ◌++◌}
use Rattle.hf_base.specs.declared.four.FourCc.{FourCc}
use Rattle.hf_box.specs.Boxes.{BoxAt}
use Rattle.hf_box.specs.Literals.{four, hex_of}

unfoldable pub free : FourCc
free = four "free"

-- a box of the type free with three bytes, at this place and with a header of so many bytes
unfoldable pub free_at : ℕ → ℕ → BoxAt
free_at at head = record { kind = free; at = at; head = head; body = hex_of "aabbcc" }

-- the size in four bytes
unfoldable pub compact_free : List ℕ
compact_free = hex_of "0000000b 66726565 aabbcc"

-- the size in eight bytes behind the type
unfoldable pub long_free : List ℕ
long_free = hex_of "00000001 66726565 0000000000000013 aabbcc"

-- no size
unfoldable pub open_free : List ℕ
open_free = hex_of "00000000 66726565 aabbcc"

-- sizes below their header
unfoldable pub size_2 : List ℕ
size_2 = hex_of "00000002 66726565 aabbcc"

unfoldable pub size_7 : List ℕ
size_7 = hex_of "00000007 66726565 aabbcc"

unfoldable pub long_size_15 : List ℕ
long_size_15 = hex_of "00000001 66726565 000000000000000f aabbcc"

-- headers of the greatest body with a size in four bytes, and of one with a byte more
unfoldable pub greatest_compact_head : List ℕ
greatest_compact_head = hex_of "ffffffff 66726565"

unfoldable pub least_long_head : List ℕ
least_long_head = hex_of "00000001 66726565 0000000100000008"

-- a meta that ends within its version and flags, and one with a box in it that has no size
unfoldable pub short_meta : List ℕ
short_meta = hex_of "0000000b 6d657461 000000"

unfoldable pub open_in_meta : List ℕ
open_in_meta = hex_of "00000014 6d657461 00000000 00000000 66726565"

-- two metas: an empty one, and one without version and flags
unfoldable pub two_metas : List ℕ
two_metas = hex_of "0000000c 6d657461 00000000" ++ hex_of "00000008 6d657461"

-- each digit once or more
unfoldable pub digits : List ℕ
digits = hex_of "01 23 45 67 89 ab cd ef"
