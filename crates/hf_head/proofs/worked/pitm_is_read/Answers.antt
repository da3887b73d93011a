use Rattle.std.proofs.Common.{refl}
use Rattle.hf_base.specs.Number.{num, number}
use Rattle.hf_base.specs.Reading.{front, front_full}
use Rattle.hf_head.specs.Pitm.{id_at, pitm_at, pitm_body}
use Rattle.hf_head.specs.Worked.{worked_pitm, wide_pitm, later_pitm}
use Rattle.hf_head.proofs.worked.pitm_is_read.Goals as goal

pub returns : goal.returns
unfolding num number front front_full id_at pitm_at pitm_body worked_pitm wide_pitm later_pitm
returns c = record { narrow = refl; wide = refl; behind = refl; empty = refl; no_flags = refl; later = refl; short = refl; short_wide = refl; written = refl; written_wide = refl }
