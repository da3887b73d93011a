use Rattle.std.proofs.Common.{◌+◌, [], ◌∷◌, ◌++◌, length, arith}
use Rattle.std.proofs.lemmas.List.Sums.{sum_by_push}
use Rattle.std.proofs.lemmas.Result.{err_from_is_err_and}
use Rattle.hf_base.specs.declared.loc.RefBox.{RefBox}
use Rattle.hf_box.proofs.TableLoop.{box_more, box_stops, boxes_done, gives_fault}
use Rattle.hf_links.specs.Iref.{with_ref_box}
use Rattle.hf_links.proofs.IrefLemmas.{one_more, stops}
use Rattle.hf_links.proofs.iref.links_in.Goals as goal

pub returns-in_err-link : goal.returns-in_err-link
returns-in_err-link c =
    let width = c.args.width in
    let links = c.loop-view.links.items in
    let p = err_from_is_err_and c.from_residual-in_err-link.result c.from_residual-in_err-link.ensures.1 in
    let fault = c.in_err-link.field-0.0 in
    let h = stops width c.loop-view.rows links _ fault c.loop-view.invariant.rows c.in_err-link.ensures.exact in
    gives_fault (λ links. links.items) c.from_residual-in_err-link.result p.0 fault _ p.1 p.2 (box_stops (with_ref_box width) links c.loop-view.boxes _ _ _ fault c.in-Some.ensures.some h c.loop-view.invariant.read)

pub loop-view-preserved : goal.loop-view-preserved
loop-view-preserved c =
    let width = c.args.width in
    let links = c.loop-view.links.items in
    let link = c.in_ok-link.link in
    let pushed = c.in_ok-push.ensures.items in
    let h = one_more width c.loop-view.rows links _ link c.loop-view.invariant.rows c.in_ok-link.ensures.exact in
    let sum = sum_by_push (λ (r : RefBox). 1 + length r.to) links link in
    record {
      read = rw pushed (box_more (with_ref_box width) links c.loop-view.boxes _ _ _ (links ++ link ∷ []) c.in-Some.ensures.some h c.loop-view.invariant.read);
      rows = rw pushed (omega (arith, sum, c.loop-view.invariant.rows, c.len-in-Some.ensures));
      few = omega (arith, c.in_ok-link.ensures.within, c.len-in-Some.ensures);
    }

pub returns : goal.returns
returns c = boxes_done (with_ref_box c.args.width) c.loop-view.links.items c.loop-view.boxes _ c.in_default.ensures.none c.loop-view.invariant.read
