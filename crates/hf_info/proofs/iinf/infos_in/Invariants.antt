use Rattle.std.proofs.Common.{◌≡◌, [], length}
use Rattle.hf_base.specs.declared.kinds.TheConstants.{INFE}
use Rattle.hf_box.specs.Tables.{of_kind, boxes_from}
use Rattle.hf_info.specs.Infe.{infos_of}
use Rattle.hf_info.specs.Iinf.{AreSeen, with_infe}
use Rattle.hf_info.proofs.iinf.infos_in.Given as goal

abbrev pub invariant-loop-b : goal.invariant-loop-b
invariant-loop-b l = record {
  read : boxes_from with_infe (infos_of l.infos.items) (of_kind INFE l.boxes) ≡ boxes_from with_infe [] (of_kind INFE l.fn.boxes);
  seen : AreSeen l.seen (infos_of l.infos.items);
}

abbrev pub decreases-loop-b : goal.decreases-loop-b
decreases-loop-b l = length (of_kind INFE l.boxes)
