use Rattle.std.proofs.Common.{◌≡◌, ℕ, ◌+◌, Bool, true, false, cond, List, drop, sym, ap, ◌∙◌, Some}
use Rattle.std.specs.Prelude.{find, option_map, slice_get}
use Rattle.hf_store.specs.LimitFaults.{first_item, has_long_list}
use Rattle.hf_store.specs.Seen.{item_of, items_of}
use Rattle.hf_store.specs.Store.{Item}
use Rattle.hf_store.proofs.Mapped.{here_at}
use Rattle.hf_store.proofs.Spots.{drop_here, get_map}
use Rattle.hf_store.proofs.store.build.first_long_list.Goals as goal

ahead : (is : List Item) (k : ℕ) (i : Item) (b : Bool) → slice_get is k ≡ Some i → b ≡ has_long_list i → first_item has_long_list (drop k is) ≡ option_map (λ (j : Item). j.id) (cond b (Some i) (find has_long_list (drop (k + 1) is)))
ahead is k i b here e = ap (first_item has_long_list) (drop_here is k i here) ∙ ap (λ x. option_map (λ (j : Item). j.id) (cond x (Some i) (find has_long_list (drop (k + 1) is)))) (sym e)

pub returns-then-has_long_list : goal.returns-then-has_long_list
returns-then-has_long_list c =
    let is = c.args.items.now in
    let i = c.item-item.result in
    let here = get_map item_of is c.loop-item.item-index i (here_at is c.loop-item.item-index i c.loop-item-test.true c.item-item.is) in
    sym (c.loop-item.invariant ∙ ahead (items_of is) c.loop-item.item-index (item_of i) true here (sym c.if-has_long_list.true ∙ c.has_long_list.ensures))

pub loop-item-preserved : goal.loop-item-preserved
loop-item-preserved c =
    let is = c.args.items.now in
    let i = c.item-item.result in
    let here = get_map item_of is c.loop-item.item-index i (here_at is c.loop-item.item-index i c.loop-item-test.true c.item-item.is) in
    c.loop-item.invariant ∙ ahead (items_of is) c.loop-item.item-index (item_of i) false here (sym c.if-has_long_list.false ∙ c.has_long_list.ensures)
