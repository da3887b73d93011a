use Rattle.std.proofs.Common.{◌≡◌, ◌+◌, [], ◌∷◌, ◌++◌, length, arith}
use Rattle.std.proofs.lemmas.List.{map_push}
use Rattle.std.proofs.lemmas.List.Sums.{sum_by_push}
use Rattle.std.proofs.lemmas.Result.{err_from_is_err_and}
use Rattle.hf_links.specs.Grpl.{Group, group_of, groups_of, with_group}
use Rattle.hf_box.proofs.TableLoop.{box_more, box_stops, boxes_done, gives_fault}
use Rattle.hf_links.proofs.GrplLemmas.{one_more, stops, has-push}
use Rattle.hf_links.proofs.grpl.groups_in.Goals as goal

pub returns-in_err-group : goal.returns-in_err-group
returns-in_err-group c =
    let groups = groups_of c.loop-view.groups.items in
    let p = err_from_is_err_and c.from_residual-in_err-group.result c.from_residual-in_err-group.ensures.1 in
    let fault = c.in_err-group.field-0.0 in
    let h = stops c.loop-view.rows groups c.loop-view.seen _ c.loop-view.invariant.rows c.loop-view.invariant.seen fault c.in_err-group.ensures.exact in
    gives_fault (λ groups. groups_of groups.items) c.from_residual-in_err-group.result p.0 fault _ p.1 p.2 (box_stops with_group groups c.loop-view.boxes _ _ _ fault c.in-Some.ensures.some h c.loop-view.invariant.read)

pub loop-view-preserved : goal.loop-view-preserved
loop-view-preserved c =
    let groups = groups_of c.loop-view.groups.items in
    let group = group_of c.in_ok-group.group in
    let pushed : groups_of c.push.new.self.items ≡ groups ++ group ∷ [] = rw c.in_ok-push.ensures.items (map_push _ c.loop-view.groups.items c.in_ok-group.group) in
    let h = one_more c.loop-view.rows groups c.loop-view.seen _ c.loop-view.invariant.rows c.loop-view.invariant.seen group c.in_ok-group.ensures.exact in
    let sum = sum_by_push (λ (g : Group). 1 + length g.entities) groups group in
    record {
      read = rw pushed (box_more with_group groups c.loop-view.boxes _ _ _ (groups ++ group ∷ []) c.in-Some.ensures.some h c.loop-view.invariant.read);
      seen = λ q. rw (pushed, has-push q groups group, ← c.loop-view.invariant.seen q) (c.in_ok-group.ensures.met q);
      rows = rw pushed (omega (arith, sum, c.loop-view.invariant.rows, c.len-in-Some.ensures));
      few = omega (arith, c.in_ok-group.ensures.within, c.len-in-Some.ensures);
    }

pub returns : goal.returns
returns c = boxes_done with_group (groups_of c.loop-view.groups.items) c.loop-view.boxes _ c.in_default.ensures.none c.loop-view.invariant.read
