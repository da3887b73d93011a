use Rattle.std.proofs.Common.{arith, ap, sym, ◌∙◌, ◌≡◌, ◌<◌, ℕ, List, Some, length, get_or, map, take}
use Rattle.std.specs.Prelude.{slice_get}
use Rattle.std.specs.Option.{option_copied}
use Rattle.std.proofs.Math.ListN.{length-set}
use Rattle.std.proofs.lemmas.List.{length-map}
use Rattle.hf_pieces.specs.Bytes.{joined}
use Rattle.hf_base.specs.BytesOf.{bytes_of}
use Rattle.hf_extent.specs.Seen.{item_seen, items_seen}
use Rattle.hf_extent.specs.Known.{bytes_by}
use Rattle.hf_extent.proofs.PlaceLaws.{length_at}
use Rattle.hf_extent.proofs.OrderLaws.{AreNamed}
use Rattle.hf_extent.proofs.SeenLaws.{seen_at}
use Rattle.hf_extent.proofs.BodyLaws.{KnowsBytes, body_known, body_there, bytes_more, bytes_all, bytes_none, named_items}
use Rattle.hf_extent.proofs.bodies.bodies.Goals as goal

pub loop-at-init : goal.loop-at-init
loop-at-init c = record { count = c.in_ok-bodies.ensures; knows = bytes_none (bytes_of c.args.file.now (option_copied c.args.idat) (items_seen c.args.items.now)) (items_seen c.args.items.now) (map joined c.in_ok-bodies.bodies.items) }

pub body-requires-clause-there : goal.body-requires-clause-there
body-requires-clause-there c =
    let named : AreNamed c.args.ids.now (items_seen c.args.items.now) =
    named_items c.args.file.now (option_copied c.args.idat) c.args.ids.now (items_seen c.args.items.now) c.requires.known c.requires.faultless in
    let place : get_or c.args.order.now c.loop-at.at-index 0 < length c.args.ids.now = c.requires.ordered.within c.loop-at.at-index c.loop-at-test.true in
    let within : get_or c.args.order.now c.loop-at.at-index 0 < length c.args.items.now =
    omega (arith, length_at c.args.ids.now (items_seen c.args.items.now) c.requires.known, length-map c.args.items.now item_seen) in
    let at : slice_get (items_seen c.args.items.now) (get_or c.args.order.now c.loop-at.at-index 0) ≡ Some (item_seen c.index-items-at.result) =
    seen_at c.args.items.now _ c.index-items-at.result within c.index-items-at.is in
    let knows : KnowsBytes (bytes_of c.args.file.now (option_copied c.args.idat) (items_seen c.args.items.now)) (items_seen c.args.items.now) (take c.loop-at.at-index c.args.order.now) (map joined c.deref.result.now) = rw c.deref.ensures.value c.loop-at.invariant.knows in
    (body_there c.args.file.now (option_copied c.args.idat) c.args.ids.now (items_seen c.args.items.now) c.args.order.now (map joined c.deref.result.now) named c.requires.ordered c.requires.faultless c.loop-at.at-index (item_seen c.index-items-at.result) c.loop-at-test.true at knows).0

pub body-requires-clause-room : goal.body-requires-clause-room
body-requires-clause-room c =
    let named : AreNamed c.args.ids.now (items_seen c.args.items.now) =
    named_items c.args.file.now (option_copied c.args.idat) c.args.ids.now (items_seen c.args.items.now) c.requires.known c.requires.faultless in
    let place : get_or c.args.order.now c.loop-at.at-index 0 < length c.args.ids.now = c.requires.ordered.within c.loop-at.at-index c.loop-at-test.true in
    let within : get_or c.args.order.now c.loop-at.at-index 0 < length c.args.items.now =
    omega (arith, length_at c.args.ids.now (items_seen c.args.items.now) c.requires.known, length-map c.args.items.now item_seen) in
    let at : slice_get (items_seen c.args.items.now) (get_or c.args.order.now c.loop-at.at-index 0) ≡ Some (item_seen c.index-items-at.result) =
    seen_at c.args.items.now _ c.index-items-at.result within c.index-items-at.is in
    let knows : KnowsBytes (bytes_of c.args.file.now (option_copied c.args.idat) (items_seen c.args.items.now)) (items_seen c.args.items.now) (take c.loop-at.at-index c.args.order.now) (map joined c.deref.result.now) = rw c.deref.ensures.value c.loop-at.invariant.knows in
    (body_there c.args.file.now (option_copied c.args.idat) c.args.ids.now (items_seen c.args.items.now) c.args.order.now (map joined c.deref.result.now) named c.requires.ordered c.requires.faultless c.loop-at.at-index (item_seen c.index-items-at.result) c.loop-at-test.true at knows).1

pub loop-at-preserved : goal.loop-at-preserved
loop-at-preserved c =
    let named : AreNamed c.args.ids.now (items_seen c.args.items.now) =
    named_items c.args.file.now (option_copied c.args.idat) c.args.ids.now (items_seen c.args.items.now) c.requires.known c.requires.faultless in
    let place : get_or c.args.order.now c.loop-at.at-index 0 < length c.args.ids.now = c.requires.ordered.within c.loop-at.at-index c.loop-at-test.true in
    let within : get_or c.args.order.now c.loop-at.at-index 0 < length c.args.items.now =
    omega (arith, length_at c.args.ids.now (items_seen c.args.items.now) c.requires.known, length-map c.args.items.now item_seen) in
    let at : slice_get (items_seen c.args.items.now) (get_or c.args.order.now c.loop-at.at-index 0) ≡ Some (item_seen c.index-items-at.result) =
    seen_at c.args.items.now _ c.index-items-at.result within c.index-items-at.is in
    let inside : get_or c.args.order.now c.loop-at.at-index 0 < length c.loop-at.bodies.items = omega (arith, c.loop-at.invariant.count) in
    let told : bytes_of c.args.file.now (option_copied c.args.idat) (items_seen c.args.items.now) (item_seen c.index-items-at.result) ≡ Some (joined c.in_ok-made.made) =
    sym (body_known c.args.file.now (option_copied c.args.idat) c.args.ids.now (items_seen c.args.items.now) c.args.order.now (map joined c.loop-at.bodies.items) named c.requires.ordered c.requires.faultless c.loop-at.at-index (item_seen c.index-items-at.result) c.loop-at-test.true at c.loop-at.invariant.knows)
    ∙ ap (λ (l : List (List (List ℕ))). bytes_by c.args.file.now (option_copied c.args.idat) c.args.ids.now (map joined l) (item_seen c.index-items-at.result)) (sym c.deref.ensures.value) ∙ c.in_ok-made.ensures
    in
    let done : bytes_of c.args.file.now (option_copied c.args.idat) (items_seen c.args.items.now) (item_seen c.index-items-at.result) ≡ Some (joined c.replace-empty.new.dest) = told ∙ ap (λ (p : List (List ℕ)). Some (joined p)) (sym c.replace-empty.ensures.after) in
    record {
      count = simp length-set c.loop-at.invariant.count;
      knows = bytes_more (bytes_of c.args.file.now (option_copied c.args.idat) (items_seen c.args.items.now)) (items_seen c.args.items.now) c.args.order.now c.loop-at.bodies.items c.loop-at.at-index c.replace-empty.new.dest (item_seen c.index-items-at.result) c.loop-at.invariant.knows c.loop-at-test.true inside at done;
    }

pub returns : goal.returns
returns c =
    let named : AreNamed c.args.ids.now (items_seen c.args.items.now) =
    named_items c.args.file.now (option_copied c.args.idat) c.args.ids.now (items_seen c.args.items.now) c.requires.known c.requires.faultless in
    bytes_all c.args.file.now (option_copied c.args.idat) c.args.ids.now (items_seen c.args.items.now) c.args.order.now c.loop-at.bodies.items c.loop-at.at-index named c.requires.ordered c.requires.faultless c.loop-at-test.false c.loop-at.invariant.count c.loop-at.invariant.knows
