use Rattle.std.proofs.Common.{refl}
use Rattle.hf_base.specs.Number.{num, number}
use Rattle.hf_base.specs.Reading.{front, front_four}
use Rattle.hf_head.specs.Ftyp.{ftyp_at, ftyp_body}
use Rattle.hf_head.specs.Worked.{worked_ftyp, worked_brands, lone_brand}
use Rattle.hf_head.proofs.worked.ftyp_is_read.Goals as goal

pub returns : goal.returns
unfolding num number front front_four ftyp_at ftyp_body worked_ftyp worked_brands lone_brand
returns c = record { brands = refl; lone = refl; empty = refl; major = refl; minor = refl; compatible = refl; written = refl }
