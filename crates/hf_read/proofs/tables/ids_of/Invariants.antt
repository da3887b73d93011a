use Rattle.std.proofs.Common.{◌≡◌, take}
use Rattle.hf_info.specs.Iinf.{info_ids}
use Rattle.hf_info.specs.Infe.{infos_of}
use Rattle.hf_read.proofs.tables.ids_of.Given as goal

abbrev pub invariant-loop-info : goal.invariant-loop-info
invariant-loop-info l = l.ids.items ≡ info_ids (infos_of (take l.info-index l.infos))
