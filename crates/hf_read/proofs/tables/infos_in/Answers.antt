use Rattle.std.proofs.Common.{}
use Rattle.hf_info.specs.Infe.{Info, infos_of}
use Rattle.hf_read.proofs.RisingLaws.{rising_rises}
use Rattle.hf_read.proofs.tables.infos_in.Goals as goal

pub returns : goal.returns
returns c =
    let infos = infos_of c.in_ok-infos.infos.items in
    let rise = rising_rises (λ (i : Info). i.id) infos c.in_ok-infos.ensures.found.0.distinct in
    (infos, c.in_ok-infos.ensures.exact, c.in_ok-by_id.ensures, rise)
