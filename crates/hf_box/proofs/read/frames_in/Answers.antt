use Rattle.std.proofs.Common.{◌≡◌, ◌+◌, ◌-◌, ◌<◌, ◌++◌, ◌∷◌, [], length, arith}
use Rattle.std.proofs.lemmas.Grind.{common_steps}
use Rattle.std.proofs.lemmas.Result.{err_from_is_err_and}
use Rattle.std.proofs.lemmas.List.{map_push, length_push}
use Rattle.hf_base.specs.declared.limits.TheConstants.{BOXES}
use Rattle.hf_box.specs.Boxes.{end_of, box_of, boxes_of}
use Rattle.hf_box.specs.Framing.{frames}
use Rattle.hf_box.proofs.Loop.{goes_on, fails, is_full, is_done}
use Rattle.hf_box.proofs.read.frames_in.Goals as goal

pub returns-then-len-eq-BOXES : goal.returns-then-len-eq-BOXES
returns-then-len-eq-BOXES c =
    let some : 0 < length c.loop-rest.rest.now = grind (arith, common_steps) in
    record { exact = is_full (boxes_of c.loop-rest.boxes.items) (BOXES - length c.loop-rest.boxes.items) c.args.top c.loop-rest.at c.loop-rest.rest.now (frames c.args.top c.args.origin c.args.bytes.now) some (omega arith) c.loop-rest.invariant.read }

pub returns-in_err-view : goal.returns-in_err-view
returns-in_err-view c =
    let p = err_from_is_err_and c.from_residual.result c.from_residual.ensures.1 in
    let some : 0 < length c.loop-rest.rest.now = grind (arith, common_steps) in
    record { exact = rw (p.1, p.2) (fails (boxes_of c.loop-rest.boxes.items) (BOXES - length c.loop-rest.boxes.items) (BOXES - length c.loop-rest.boxes.items - 1) c.args.top c.loop-rest.at c.loop-rest.rest.now c.in_err-view.field-0.0 (frames c.args.top c.args.origin c.args.bytes.now) some (omega arith) c.in_err-view.ensures.exact c.loop-rest.invariant.read) }

pub loop-rest-preserved : goal.loop-rest-preserved
loop-rest-preserved c =
    let b = c.in_ok-view.view in
    let some : 0 < length c.loop-rest.rest.now = grind (arith, common_steps) in
    let pushed : boxes_of c.push.new.self.items ≡ boxes_of c.loop-rest.boxes.items ++ box_of b ∷ [] = rw c.in_ok-push.ensures.items (map_push _ c.loop-rest.boxes.items b) in
    let longer : length c.push.new.self.items ≡ length c.loop-rest.boxes.items + 1 = rw c.in_ok-push.ensures.items (length_push _ b) in
    let left = BOXES - length c.push.new.self.items in
    let next : c.loop-rest.at + (length c.loop-rest.rest.now - length c.in_ok-view.after.now) ≡ end_of (box_of b) = omega (arith, c.in_ok-view.ensures.whole, c.in_ok-view.ensures.shorter) in
    record {
      read = rw pushed (goes_on (boxes_of c.loop-rest.boxes.items) (BOXES - length c.loop-rest.boxes.items) left c.args.top c.loop-rest.at (c.loop-rest.at + (length c.loop-rest.rest.now - length c.in_ok-view.after.now)) c.loop-rest.rest.now (box_of b) c.in_ok-view.after.now (frames c.args.top c.args.origin c.args.bytes.now) some (omega arith) next c.in_ok-view.ensures.exact c.loop-rest.invariant.read);
      room = omega arith;
      place = omega (arith, c.in_ok-view.ensures.shorter);
    }

pub returns : goal.returns
returns c =
    let none : length c.loop-rest.rest.now ≡ 0 = grind (arith, common_steps) in
    record { exact = is_done (boxes_of c.loop-rest.boxes.items) (BOXES - length c.loop-rest.boxes.items) c.args.top c.loop-rest.at c.loop-rest.rest.now (frames c.args.top c.args.origin c.args.bytes.now) none c.loop-rest.invariant.read }
