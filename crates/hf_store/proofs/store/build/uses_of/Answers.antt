use Rattle.std.proofs.Common.{sym, subst, arith}
use Rattle.std.specs.List.{flat_map}
use Rattle.std.proofs.lemmas.List.{length-map, take_all}
use Rattle.hf_store.specs.Seen.{item_of, items_of}
use Rattle.hf_store.specs.Table.{props_of}
use Rattle.hf_table.specs.Held.{props_in}
use Rattle.hf_table.specs.Uses.{HasRoom, Gains, Tallies}
use Rattle.hf_store.proofs.Mapped.{here_at}
use Rattle.hf_store.proofs.Spots.{get_map}
use Rattle.hf_store.proofs.Uses.{has_room, next_tallies}
use Rattle.hf_store.proofs.store.build.uses_of.Goals as goal

pub add_all-requires : goal.add_all-requires
add_all-requires c =
    let is = c.args.items.now in
    let i = c.item-item.result in
    let here = get_map item_of is c.loop-item.item-index i (here_at is c.loop-item.item-index i c.loop-item-test.true c.item-item.is) in
    subst (λ hs. HasRoom c.loop-item.uses (props_in hs)) (sym c.as_slice.ensures)
    (has_room (items_of is) c.loop-item.item-index (item_of i) here c.loop-item.uses c.bytes-bytes.ensures.sound c.loop-item.invariant (omega (arith, c.requires.few, length-map is item_of)) c.requires.short c.requires.light)

pub loop-item-preserved : goal.loop-item-preserved
loop-item-preserved c =
    let is = c.args.items.now in
    let i = c.item-item.result in
    let here = get_map item_of is c.loop-item.item-index i (here_at is c.loop-item.item-index i c.loop-item-test.true c.item-item.is) in
    let gains : Gains c.loop-item.uses (props_of (item_of i)) c.add_all.new.self = subst (λ hs. Gains c.loop-item.uses (props_in hs) c.add_all.new.self) c.as_slice.ensures c.in_ok-add_all.ensures.gains in
    next_tallies (items_of is) c.loop-item.item-index (item_of i) here c.loop-item.uses c.add_all.new.self c.loop-item.invariant gains

pub returns : goal.returns
returns c =
    let is = items_of c.args.items.now in
    subst (λ js. Tallies c.loop-item.uses (flat_map props_of js)) (take_all c.loop-item.item-index is (omega (arith, c.loop-item-test.false, length-map c.args.items.now item_of))) c.loop-item.invariant
