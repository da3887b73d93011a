use Rattle.std.proofs.Common.{◌≡◌, ◌<◌, ◌≤◌, ◌+◌, ◌++◌, ◌∷◌, [], List, length, take, drop, map, arith, inr, ap, ◌∙◌}
use Rattle.std.proofs.lemmas.Grind.{common_steps}
use Rattle.std.proofs.lemmas.List.{length-map}
use Rattle.std.proofs.lemmas.Result.{err_from_is_err_and}
use Rattle.hf_box.specs.declared.view.BoxRow.{BoxRow}
use Rattle.hf_box.specs.declared.view.BoxView.{BoxView}
use Rattle.hf_base.specs.declared.limits.TheConstants.{BOXES}
use Rattle.hf_box.specs.Boxes.{BoxAt, box_of, boxes_of}
use Rattle.hf_box.specs.Walk.{row_of, IsChildrenFault, IsWalkFault}
use Rattle.hf_box.proofs.Walking.{at_meta, unfit_weaker}
use Rattle.hf_box.proofs.rows.rows_in.Goals as goal

pub children_of-requires-clause-kind : goal.children_of-requires-clause-kind
children_of-requires-clause-kind c =
    let lt : c.meta_place-place.result < length c.in_ok-boxes.boxes.items = grind (arith, common_steps) in
    let p = c.meta_place-place.ensures in
    (at_meta c.in_ok-boxes.boxes.items c.deref.result.now c.meta_place-place.result c.index.result.now c.deref.ensures.value p.before p.there lt c.index.ensures).is

pub returns-in_err-children : goal.returns-in_err-children
returns-in_err-children c =
    let q = err_from_is_err_and c.from_residual-in_err-children.result c.from_residual-in_err-children.ensures.1 in
    let lt : c.meta_place-place.result < length c.in_ok-boxes.boxes.items = grind (arith, common_steps) in
    let p = c.meta_place-place.ensures in
    let m = at_meta c.in_ok-boxes.boxes.items c.deref.result.now c.meta_place-place.result c.index.result.now c.deref.ensures.value p.before p.there lt c.index.ensures in
    let f = c.in_ok-boxes.ensures.found in
    let len : length (boxes_of c.in_ok-boxes.boxes.items) ≤ BOXES = omega (arith, f.1, length-map {A = BoxView} {B = BoxAt}) in
    rw (q.1, q.2) (unfit_weaker c.in_err-children.field-0.0 (IsChildrenFault (box_of c.index.result.now)) (IsWalkFault c.args.file.now) c.in_err-children.ensures.found
    (λ fault k. inr (boxes_of c.in_ok-boxes.boxes.items, take c.meta_place-place.result (boxes_of c.in_ok-boxes.boxes.items), boxes_of (drop (c.meta_place-place.result + 1) c.in_ok-boxes.boxes.items), box_of c.index.result.now, (f.0, len), m.has, k)))

pub returns : goal.returns
returns c =
    let boxes = c.in_ok-boxes.boxes.items in
    let i = c.meta_place-place.result in
    let lt : i < length boxes = grind (arith, common_steps) in
    let p = c.meta_place-place.ensures in
    let m = at_meta boxes c.deref.result.now i c.index.result.now c.deref.ensures.value p.before p.there lt c.index.ensures in
    let f = c.in_ok-boxes.ensures.found in
    let len : length (boxes_of boxes) ≤ BOXES = omega (arith, f.1, length-map {A = BoxView} {B = BoxAt}) in
    let rows_of : List BoxAt → List BoxView → List BoxRow = λ front children. (map (row_of 0) front ++ map (row_of 1) (boxes_of children)) ++ map (row_of 0) (boxes_of (drop (i + 1) boxes)) in
    let rows : c.in_ok-rows_with.field-0.items ≡ rows_of (take i (boxes_of boxes) ++ box_of c.index.result.now ∷ []) c.in_ok-children.children.items =
    c.in_ok-rows_with.ensures
    ∙ ap (λ (l : List BoxView). (map (row_of 0) (boxes_of (take (i + 1) l)) ++ map (row_of 1) (boxes_of c.deref-3.result.now)) ++ map (row_of 0) (boxes_of (drop (i + 1) l))) c.deref-2.ensures.value
    ∙ ap (λ (l : List BoxView). rows_of (boxes_of (take (i + 1) boxes)) l) c.deref-3.ensures.value
    ∙ ap (λ (l : List BoxAt). rows_of l c.in_ok-children.children.items) m.front in
    (boxes_of boxes, (f.0, len), inr (take i (boxes_of boxes), boxes_of (drop (i + 1) boxes), boxes_of c.in_ok-children.children.items, box_of c.index.result.now, m.has, c.in_ok-children.ensures.found, rows))
