use Rattle.std.proofs.Common.{arith, ap, ◌∙◌, ◌≡◌, ◌-◌, ◌^◌, ◌<◌, ℕ, List, Some, min, length, get_or}
use Rattle.std.specs.Prelude.{slice_get}
use Rattle.std.proofs.Math.ListN.{length-set}
use Rattle.std.proofs.lemmas.List.{length-map}
use Rattle.hf_base.specs.Located.{Located}
use Rattle.hf_base.specs.Counts.{size_of}
use Rattle.hf_extent.specs.Seen.{item_seen, items_seen}
use Rattle.hf_extent.specs.Known.{size_by}
use Rattle.hf_extent.proofs.PlaceLaws.{length_at}
use Rattle.hf_extent.proofs.OrderLaws.{AreNamed}
use Rattle.hf_extent.proofs.SeenLaws.{seen_at}
use Rattle.hf_extent.proofs.TotalLaws.{knows_more, size_known, knows_all}
use Rattle.hf_extent.proofs.sizes.sizes.Goals as goal

pub loop-at-preserved : goal.loop-at-preserved
loop-at-preserved c =
    let named : AreNamed c.args.ids.now (items_seen c.args.items.now) = record { at = c.requires.known; named = c.requires.named } in
    let place : get_or c.args.order.now c.loop-at.at-index 0 < length c.args.ids.now = c.requires.ordered.within c.loop-at.at-index c.loop-at-test.true in
    let within : get_or c.args.order.now c.loop-at.at-index 0 < length c.args.items.now =
    omega (arith, length_at c.args.ids.now (items_seen c.args.items.now) c.requires.known, length-map c.args.items.now item_seen) in
    let at : slice_get (items_seen c.args.items.now) (get_or c.args.order.now c.loop-at.at-index 0) ≡ Some (item_seen c.index-items-at.result) =
    seen_at c.args.items.now _ c.index-items-at.result within c.index-items-at.is in
    let inside : get_or c.args.order.now c.loop-at.at-index 0 < length c.loop-at.sizes.items = omega (arith, c.loop-at.invariant.count) in
    record {
      count = simp length-set c.loop-at.invariant.count;
      knows = knows_more (λ (r : Located). min (size_of c.args.len c.args.inner (items_seen c.args.items.now) r) (2 ^ 128 - 1)) (items_seen c.args.items.now) c.args.order.now c.loop-at.sizes.items c.loop-at.at-index c.size_of.result (item_seen c.index-items-at.result) c.loop-at.invariant.knows c.loop-at-test.true inside at
          (c.size_of.ensures ∙ ap (λ (l : List ℕ). min (size_by c.args.len c.args.inner c.args.ids.now l (item_seen c.index-items-at.result)) (2 ^ 128 - 1)) c.deref.ensures.value
          ∙ size_known (2 ^ 128 - 1) c.args.len c.args.inner c.args.ids.now (items_seen c.args.items.now) c.args.order.now c.loop-at.sizes.items named c.requires.ordered c.requires.ending c.loop-at.at-index (item_seen c.index-items-at.result) c.loop-at-test.true at c.loop-at.invariant.knows);
    }

pub returns : goal.returns
returns c =
    let named : AreNamed c.args.ids.now (items_seen c.args.items.now) = record { at = c.requires.known; named = c.requires.named } in
    knows_all (λ (r : Located). min (size_of c.args.len c.args.inner (items_seen c.args.items.now) r) (2 ^ 128 - 1)) c.args.ids.now (items_seen c.args.items.now) c.args.order.now c.loop-at.sizes.items c.loop-at.at-index named c.requires.ordered c.requires.ending c.loop-at-test.false c.loop-at.invariant.count c.loop-at.invariant.knows
