use Rattle.std.proofs.Common.{subst, arith}
use Rattle.std.proofs.lemmas.List.{length-map, take_all}
use Rattle.hf_store.specs.Referred.{HasAll, all_targets, targets_by}
use Rattle.hf_store.specs.Seen.{item_of, items_of}
use Rattle.hf_store.specs.Store.{Item}
use Rattle.hf_store.proofs.KnownIds.{flat_next}
use Rattle.hf_store.proofs.Mapped.{here_at}
use Rattle.hf_store.proofs.Spots.{get_map}
use Rattle.hf_store.proofs.referring.referred_of.Goals as goal

pub loop-item-preserved : goal.loop-item-preserved
loop-item-preserved c =
    let is = c.args.items.now in
    let i = c.item-item.result in
    let new = c.add_refs.new.self in
    let here = get_map item_of is c.loop-item.item-index i (here_at is c.loop-item.item-index i c.loop-item-test.true c.item-item.is) in
    let more : HasAll new (targets_by i.refs) = subst (λ rs. HasAll new (targets_by rs)) c.as_slice.ensures c.in_ok-add_refs.ensures.added in
    flat_next (λ (j : Item). targets_by j.refs) (items_of is) c.loop-item.item-index (item_of i) c.loop-item.referred new here c.loop-item.invariant
    c.add_refs.ensures.kept more

pub returns : goal.returns
returns c =
    let is = items_of c.args.items.now in
    let past = take_all c.loop-item.item-index is (omega (arith, c.loop-item-test.false, length-map c.args.items.now item_of)) in
    subst (λ js. HasAll c.loop-item.referred (all_targets js)) past c.loop-item.invariant
