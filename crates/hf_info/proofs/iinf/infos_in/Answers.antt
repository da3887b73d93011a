use Rattle.std.proofs.lemmas.Result.{err_from_is_err_and}
use Rattle.hf_base.specs.declared.kinds.TheConstants.{INFE}
use Rattle.hf_box.specs.Tables.{of_kind}
use Rattle.hf_box.proofs.TableLoop.{box_more, box_stops, boxes_done, gives_fault}
use Rattle.hf_info.specs.Infe.{infos_of}
use Rattle.hf_info.specs.Iinf.{with_infe}
use Rattle.hf_info.proofs.iinf.infos_in.Goals as goal

pub returns-in_err-push_infe : goal.returns-in_err-push_infe
returns-in_err-push_infe c =
    let p = err_from_is_err_and c.from_residual-in_err-push_infe.result c.from_residual-in_err-push_infe.ensures.1 in
    let fault = c.in_err-push_infe.field-0.0 in
    let stops = box_stops with_infe (infos_of c.loop-b.infos.items) (of_kind INFE c.loop-b.boxes) _ _ _ fault c.in-Some.ensures.some c.in_err-push_infe.ensures.exact c.loop-b.invariant.read in
    gives_fault (λ v. infos_of v.items) c.from_residual-in_err-push_infe.result p.0 fault _ p.1 p.2 stops

pub loop-b-preserved : goal.loop-b-preserved
loop-b-preserved c = record {
  read = box_more with_infe (infos_of c.loop-b.infos.items) (of_kind INFE c.loop-b.boxes) _ _ _ _ c.in-Some.ensures.some c.in_ok-push_infe.ensures.exact c.loop-b.invariant.read;
  seen = c.in_ok-push_infe.ensures.seen;
}

pub returns : goal.returns
returns c = boxes_done with_infe (infos_of c.loop-b.infos.items) (of_kind INFE c.loop-b.boxes) _ c.in_default.ensures.none c.loop-b.invariant.read
