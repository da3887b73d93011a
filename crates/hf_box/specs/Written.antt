-- Parts of boxes as a canonical file has them. Which versions, widths and marks it has is this project's own rule.
use Rattle.std.specs.Prelude.{ℕ, Bool, List, ◌++◌, if◌then◌else◌}
use Rattle.hf_base.specs.Number.{num}

-- a mark as a bit
abbrev pub bit : Bool → ℕ
bit b = if b then 1 else 0

-- bytes of an item id: all ids of a file take four, or all take two
abbrev pub id_width : Bool → ℕ
id_width wide = if wide then 4 else 2

-- the versions that have ids of this width: of `pitm`, `iinf`, `iref` and `ipma`
abbrev pub id_version : Bool → ℕ
id_version wide = if wide then 1 else 0

-- a string, and the zero byte that ends it
abbrev pub zero_ended : List ℕ → List ℕ
zero_ended bytes = bytes ++ num 0 1
