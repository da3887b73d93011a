use Rattle.std.proofs.Common.{◌≡◌, length, refl, ◌<◌, ◌≤◌, ap, sym, ◌∙◌, arith}
use Rattle.std.proofs.lemmas.Grind.{common_steps}
use Rattle.hf_store.specs.Capped.{capped}
use Rattle.hf_store.specs.Changes.{cut_item}
use Rattle.hf_store.specs.Counts.{targets_of}
use Rattle.hf_store.specs.Seen.{item_of, items_of}
use Rattle.hf_store.specs.Stays.{stays_of}
use Rattle.hf_store.specs.Store.{Item}
use Rattle.hf_store.proofs.Mapped.{mapped-none, pass-next, mapped-all, length-passed}
use Rattle.hf_store.proofs.Tallied.{items-sum-changed, sum-all}
use Rattle.std.proofs.lemmas.List.{length-map}
use Rattle.hf_store.proofs.cutting.cut_items.Goals as goal

pub loop-i-init : goal.loop-i-init
loop-i-init c = record { items = sym (mapped-none (cut_item (stays_of c.args.stays.now)) (items_of c.args.items.now.items)); lists = refl; targets = refl }

pub index_mut-item-requires : goal.index_mut-item-requires
index_mut-item-requires c =
    let same = length-passed item_of (cut_item (stays_of c.args.stays.now)) c.args.items.now.items c.loop-i.items.items c.loop-i.i c.loop-i.invariant.items in grind (arith, common_steps)

pub loop-i-preserved : goal.loop-i-preserved
loop-i-preserved c =
    let f = cut_item (stays_of c.args.stays.now) in
    let now = c.loop-i.items.items in
    let new = c.cut_item.new.item in
    let inv = c.loop-i.invariant in
    let same : length now ≡ length c.args.items.now.items = length-passed item_of f c.args.items.now.items now c.loop-i.i inv.items in
    let within : c.loop-i.i < length now = grind (arith, common_steps) in
    let lists = items-sum-changed (λ (i : Item). length i.refs) now c.loop-i.i new c.loop-i.links.lists within inv.lists in
    let targets = items-sum-changed (λ (i : Item). targets_of i.refs) now c.loop-i.i new c.loop-i.links.targets within inv.targets in
    record {
      items = pass-next item_of f c.args.items.now.items now c.loop-i.i c.index_mut-item.result.now new within c.index_mut-item.ensures.value inv.items c.cut_item.ensures;
      lists = omega (arith, lists);
      targets = omega (arith, targets, c.count_targets.ensures ∙ ap (λ rs. capped (targets_of rs)) c.as_slice.ensures);
    }

pub returns : goal.returns
returns c =
    let inv = c.loop-i.invariant in
    let same : length c.loop-i.items.items ≡ length c.args.items.now.items = length-passed item_of (cut_item (stays_of c.args.stays.now)) c.args.items.now.items c.loop-i.items.items c.loop-i.i inv.items in
    let all : length c.args.items.now.items ≤ c.loop-i.i = grind (arith, common_steps) in
    let past : length (items_of c.loop-i.items.items) ≤ c.loop-i.i = omega (arith, length-map c.loop-i.items.items item_of, same, all) in
    record {
      items = inv.items ∙ mapped-all (cut_item (stays_of c.args.stays.now)) (items_of c.args.items.now.items) c.loop-i.i (omega (arith, length-map c.args.items.now.items item_of, all));
      lists = inv.lists ∙ sum-all (λ (i : Item). length i.refs) (items_of c.loop-i.items.items) c.loop-i.i past;
      targets = inv.targets ∙ sum-all (λ (i : Item). targets_of i.refs) (items_of c.loop-i.items.items) c.loop-i.i past;
    }
