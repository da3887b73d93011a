-- A name and its fields, as they are printed.
use Rattle.std.specs.Prelude.{ℕ, List, [], ◌++◌, Option, Some, None}
use Rattle.hf_base.specs.declared.four.FourCc.{FourCc}
use Rattle.hf_text.specs.Lines.{number_field, type_field}
use Rattle.hf_text.specs.declared.parts.Parts.{Parts}

abbrev pub type_if_any : Option FourCc → List ℕ
type_if_any None = []
type_if_any (Some kind) = type_field kind

abbrev pub number_if_any : Option ℕ → List ℕ
number_if_any None = []
number_if_any (Some n) = number_field n

abbrev pub parts_text : Parts → List ℕ
parts_text p = p.name.now ++ type_if_any p.kind ++ number_if_any p.number
