-- Types and bytes as they are printed in texts on the format.
use Prim.Native.String.{String as Text}
use Rattle.std.specs.Prelude.{ℕ, ◌+◌, ◌-◌, ◌*◌, List, [], ◌∷◌, nat_lt, not, ◌==◌, filter, if◌then◌else◌, codes}
use Rattle.hf_base.specs.declared.four.FourCc.{FourCc}

-- the type that these four characters spell
abbrev pub four : Text → FourCc
four text = record { 0 = codes text }

-- the value of one hexadecimal digit, 0 to 9 or a to f
abbrev pub digit : ℕ → ℕ
digit c = if nat_lt c 58 then c - 48 else c - 87

abbrev pub pairs : List ℕ → List ℕ
pairs [] = []
pairs (c ∷ []) = []
pairs (c ∷ d ∷ cs) = (16 * digit c + digit d) ∷ pairs cs

-- the bytes of a hexadecimal text, two digits a byte; blanks count for nothing
abbrev pub hex_of : Text → List ℕ
hex_of text = pairs (filter (λ c. not (c == 32)) (codes text))
