-- The types of the boxes that were met.
use Rattle.std.specs.Prelude.{◌≡◌, true, List}
use Rattle.hf_base.specs.declared.four.FourCc.{FourCc}
use Rattle.hf_box.specs.Boxes.{BoxAt}
use Rattle.hf_read.specs.TopLevel.{has_kind, is_among}

-- of these types, those that were met are those of the boxes so far
abbrev pub Knows : List FourCc → List FourCc → List BoxAt → Type 0
Knows once seen before = (k : FourCc) → is_among once k ≡ true → is_among seen k ≡ has_kind k before
