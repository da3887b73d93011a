use Rattle.std.proofs.Common.{sym, subst, List, take, arith}
use Rattle.std.proofs.lemmas.List.{map_more}
use Rattle.std.proofs.lemmas.Result.{err_from_is_err_and}
use Rattle.hf_box.specs.Boxes.{BoxAt, box_of, boxes_of}
use Rattle.hf_read.specs.Level.{Knows}
use Rattle.hf_read.specs.TopLevel.{once, child_fault}
use Rattle.hf_read.proofs.LoopLemmas.{fault_on, fails_here, fault_end}
use Rattle.hf_read.proofs.level.check_children.Goals as goal

pub returns-in_err-child_box : goal.returns-in_err-child_box
returns-in_err-child_box c =
    let boxes = c.args.boxes.now in
    let i = c.loop-b.b-index in
    let p = err_from_is_err_and c.from_residual.result c.from_residual.ensures.1 in
    rw (p.1, p.2) (fails_here child_fault boxes i _ _ c.loop-b-test.true c.loop-b.invariant.so_far c.in_err-child_box.field-0.0 (c.in_err-child_box.ensures.exact (boxes_of (take i boxes)) c.loop-b.invariant.seen))

pub loop-b-preserved : goal.loop-b-preserved
loop-b-preserved c =
    let boxes = c.args.boxes.now in
    let i = c.loop-b.b-index in
    let more = map_more box_of boxes i _ c.loop-b-test.true in
    record {
      seen = subst (λ (l : List BoxAt). Knows once c.child_box.new.seen.items l) (sym more) (c.in_ok-child_box.ensures.keeps (boxes_of (take i boxes)) c.loop-b.invariant.seen);
      so_far = fault_on child_fault boxes i _ _ c.loop-b-test.true c.loop-b.invariant.so_far (c.in_ok-child_box.ensures.exact (boxes_of (take i boxes)) c.loop-b.invariant.seen);
    }

pub returns : goal.returns
returns c = fault_end child_fault c.args.boxes.now c.loop-b.b-index _ (omega arith) c.loop-b.invariant.so_far
