use Rattle.std.proofs.Common.{◌≡◌, ◌+◌, ◌-◌, ◌<◌, ◌++◌, ◌∷◌, [], false, length, length-append, ◌∙◌, arith}
use Rattle.std.proofs.lemmas.Grind.{common_steps}
use Rattle.std.proofs.lemmas.Result.{err_from_is_err_and}
use Rattle.hf_base.specs.declared.limits.TheConstants.{BOXES}
use Rattle.hf_box.specs.Boxes.{end_of, box_of}
use Rattle.hf_box.specs.Framing.{frames}
use Rattle.hf_box.proofs.InnerLemmas.{counted_all}
use Rattle.hf_box.proofs.Loop.{goes_on, fails, is_full, is_done}
use Rattle.hf_box.proofs.inner.count_frames.Goals as goal

pub returns-then-many-eq-BOXES-clause-framed : goal.returns-then-many-eq-BOXES-clause-framed
returns-then-many-eq-BOXES-clause-framed c =
    let l = c.loop-rest in
    let read = l.invariant.read in
    let some : 0 < length l.rest.now = grind (arith, common_steps) in
    is_full read.0 (BOXES - l.many) false l.at l.rest.now (frames false c.args.origin c.args.bytes.now) some (omega arith) read.2

pub returns-in_err-after-clause-framed : goal.returns-in_err-after-clause-framed
returns-in_err-after-clause-framed c =
    let p = err_from_is_err_and c.from_residual.result c.from_residual.ensures.1 in
    let l = c.loop-rest in
    let read = l.invariant.read in
    let some : 0 < length l.rest.now = grind (arith, common_steps) in
    rw (p.1, p.2) (fails read.0 (BOXES - l.many) (BOXES - l.many - 1) false l.at l.rest.now c.in_err-after.field-0.0 (frames false c.args.origin c.args.bytes.now) some (omega arith) c.in_err-after.ensures.exact read.2)

pub loop-rest-preserved : goal.loop-rest-preserved
loop-rest-preserved c =
    let l = c.loop-rest in
    let o = c.in_ok-after in
    let read = l.invariant.read in
    let b = box_of o.field-0-0 in
    let place = l.at + (length l.rest.now - length o.after.now) in
    let some : 0 < length l.rest.now = grind (arith, common_steps) in
    let next : place ≡ end_of b = omega (arith, o.ensures.whole, o.ensures.shorter) in
    record {
      read = (
        read.0 ++ b ∷ [],
        length-append read.0 (b ∷ []) ∙ omega (arith, read.1),
        goes_on read.0 (BOXES - l.many) (BOXES - (l.many + 1)) false l.at place l.rest.now b o.after.now (frames false c.args.origin c.args.bytes.now) some (omega arith) next o.ensures.exact read.2,
      );
      room = omega arith;
      place = omega (arith, o.ensures.shorter);
    }

pub returns-clause-framed : goal.returns-clause-framed
returns-clause-framed c =
    let l = c.loop-rest in
    let read = l.invariant.read in
    let none : length l.rest.now ≡ 0 = grind (arith, common_steps) in
    let all = is_done read.0 (BOXES - l.many) false l.at l.rest.now (frames false c.args.origin c.args.bytes.now) none read.2 in
    (counted_all c.args.origin c.args.bytes.now read.0 l.many all read.1 l.invariant.room c.requires).0

pub returns-clause-inner : goal.returns-clause-inner
returns-clause-inner c =
    let l = c.loop-rest in
    let read = l.invariant.read in
    let none : length l.rest.now ≡ 0 = grind (arith, common_steps) in
    let all = is_done read.0 (BOXES - l.many) false l.at l.rest.now (frames false c.args.origin c.args.bytes.now) none read.2 in
    (counted_all c.args.origin c.args.bytes.now read.0 l.many all read.1 l.invariant.room c.requires).1
