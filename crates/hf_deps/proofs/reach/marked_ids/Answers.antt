use Rattle.std.proofs.Common.{◌<◌, length, get_or, refl, ◌∙◌, arith}
use Rattle.std.proofs.lemmas.List.{length-map}
use Rattle.hf_store.specs.Seen.{item_of}
use Rattle.hf_store.specs.Store.{Item, ids_of}
use Rattle.hf_store.proofs.Spots.{at_or, id_here}
use Rattle.hf_deps.proofs.Spread.{passed_over, picked}
use Rattle.hf_deps.proofs.reach.marked_ids.Goals as goal
use Rattle.hf_deps.proofs.reach.marked_ids.Goals.{then-is_marked+in_ok-push, else-is_marked}

pub loop-i-preserved : goal.loop-i-preserved
loop-i-preserved c = λ test e.
    let items = c.args.store.now.items in
    let all = ids_of items in
    let i = c.loop-i.i in
    let less : i < length all = omega (arith, c.len-i-end.ensures.count, c.loop-i-test.true, length-map items (λ (j : Item). j.id)) in
    elim c.if-is_marked.branch [
      | then-is_marked+in_ok-push w ↦
          let item = item_of w.at.result.now in
          let here = at_or all i item.id 0 (id_here items i item w.at.ensures) in
          w.ids-is ∙ w.in_ok-push.ensures.pushed
          ∙ picked test all c.args.marks.now i item.id c.loop-i.ids e less here (c.loop-i.invariant test e) w.if-is_marked.true
      | else-is_marked w ↦ w.ids-is
          ∙ passed_over test all c.args.marks.now i (get_or all i 0) c.loop-i.ids e less refl (c.loop-i.invariant test e) w.if-is_marked.false
    ]
