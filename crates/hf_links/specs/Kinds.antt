-- What types of references mean.
use Rattle.std.specs.Prelude.{Bool, ◌||◌}
use Rattle.hf_base.specs.declared.four.FourCc.{FourCc}
use Rattle.hf_box.specs.Literals.{four}
use Rattle.hf_box.specs.Walk.{is_kind}

-- the types of references without whose items an item cannot be shown: `dimg`, `tbas` and `prem` of ISO/IEC 23008-12
abbrev pub is_need : FourCc → Bool
is_need kind = is_kind kind (four "dimg") || is_kind kind (four "tbas") || is_kind kind (four "prem")

-- the types of references of a thumbnail and of an auxiliary picture: `thmb` and `auxl` of ISO/IEC 23008-12
abbrev pub is_minor : FourCc → Bool
is_minor kind = is_kind kind (four "thmb") || is_kind kind (four "auxl")
