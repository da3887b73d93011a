use Rattle.std.proofs.Common.{arith, ap, ◌<◌, length, get_or}
use Rattle.std.proofs.lemmas.List.{length-map}
use Rattle.hf_extent.specs.Seen.{item_seen, items_seen}
use Rattle.hf_extent.specs.declared.items.Located.{Located}
use Rattle.hf_extent.proofs.PlaceLaws.{length_at}
use Rattle.hf_extent.proofs.ItemLaws.{entry_more, entry_nowhere}
use Rattle.hf_extent.proofs.items.add_entry.Goals as goal

pub returns-in-Some : goal.returns-in-Some
returns-in-Some c = λ locs links so_far none.
    let within : c.in-Some.at < length c.args.items.now =
    omega (arith, c.in-Some.ensures.within, length_at c.args.ids.now (items_seen c.args.items.now) c.requires.known, length-map c.args.items.now item_seen) in
    entry_more c.args.ids.now c.args.items.now locs links c.args.loc.now c.in-Some.at (get_or c.args.items.now c.in-Some.at c.index-items-at.result) c.set_entry.new.item c.requires.rising so_far none c.in-Some.ensures.value within (ap (λ (r : Located). get_or c.args.items.now c.in-Some.at r) c.index-items-at.is) c.set_entry.ensures

pub returns-in-None : goal.returns-in-None
returns-in-None c = λ locs links so_far none. entry_nowhere c.args.ids.now c.args.items.now locs links c.args.loc.now c.requires.rising so_far c.in-None.ensures.value
