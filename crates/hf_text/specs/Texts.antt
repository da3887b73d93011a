-- Texts as they are printed: this project's own rule.
use Rattle.std.specs.Prelude.{ℕ, ◌+◌, ◌/◌, ◌%◌, zero, suc, Bool, ◌&&◌, not, List, [], ◌∷◌, ◌++◌, nat_le, nat_lt, ◌==◌, if◌then◌else◌, codes, decimal}
use Rattle.std.specs.List.{flat_map}
use Rattle.hf_base.specs.declared.four.FourCc.{FourCc}
use Rattle.hf_box.specs.declared.view.BoxRow.{BoxRow}

-- a byte that prints as itself: one that can be seen in ASCII, other than the backslash
abbrev pub is_plain : ℕ → Bool
is_plain byte = (nat_le 33 byte && nat_le byte 126) && not (byte == 92)

-- 0 to 9, a to f
abbrev pub hex_digit_of : ℕ → ℕ
hex_digit_of n = if nat_lt n 10 then 48 + n else 87 + n

-- any other byte prints as a backslash, an x and two hexadecimal digits
abbrev pub byte_text : ℕ → List ℕ
byte_text byte = if is_plain byte then byte ∷ [] else codes "\\x" ++ hex_digit_of (byte / 16) ∷ hex_digit_of (byte % 16) ∷ []

-- the four bytes of a type
abbrev pub type_text : FourCc → List ℕ
type_text kind = flat_map byte_text kind.0

-- two spaces before a box that stands in another
abbrev pub indent : ℕ → List ℕ
indent zero = []
indent (suc depth) = codes "  "

-- a row: the place of the box, its type and its whole size
abbrev pub row_text : BoxRow → List ℕ
row_text r = indent r.depth ++ decimal r.at ++ codes " " ++ type_text r.kind ++ codes " " ++ decimal r.size ++ codes "\n"

-- a line for each row
abbrev pub rows_text : List BoxRow → List ℕ
rows_text rows = flat_map row_text rows
