use Rattle.std.proofs.Common.{ℕ, List, true, set, sym, subst}
use Rattle.hf_store.specs.Store.{ids_of}
use Rattle.hf_store.proofs.Spots.{at_or, within_at}
use Rattle.hf_deps.specs.Reach.{IsMet}
use Rattle.hf_deps.proofs.Spread.{met_again, met_first}
use Rattle.hf_deps.proofs.reach.meet.Goals as goal

pub returns-in_ok-push : goal.returns-in_ok-push
returns-in_ok-push c =
    let all = ids_of c.args.store.now.items in
    let k = c.in-Some.place in
    let here = c.in-Some.ensures.some in
    let met = met_first all c.args.marks.now c.args.reached.now.items k c.args.id c.position.ensures.valid.ids_rise c.requires.marked
    (within_at all k c.args.id here) (at_or all k c.args.id 0 here) c.if-not-marks-place.true in
    subst (λ (new : List ℕ). IsMet all c.args.id c.args.reached.now.items (set c.args.marks.now k true) new) (sym c.in_ok-push.ensures.items) met

pub returns-else-not-marks-place : goal.returns-else-not-marks-place
returns-else-not-marks-place c =
    let all = ids_of c.args.store.now.items in
    let k = c.in-Some.place in
    let here = c.in-Some.ensures.some in
    met_again all c.args.marks.now c.args.reached.now.items k c.args.id c.requires.marked (within_at all k c.args.id here)
    (at_or all k c.args.id 0 here) c.if-not-marks-place.false
