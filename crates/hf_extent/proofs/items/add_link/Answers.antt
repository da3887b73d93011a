use Rattle.std.proofs.Common.{arith, ap, sym, ◌∙◌, ◌<◌, ◌≡◌, true, length, get_or}
use Rattle.std.proofs.lemmas.Bool.{false≢true}
use Rattle.std.specs.Str.{bytes_eq}
use Rattle.std.proofs.lemmas.List.{length-map}
use Rattle.hf_base.specs.declared.kinds.TheConstants.{ILOC}
use Rattle.hf_extent.specs.Seen.{item_seen, items_seen}
use Rattle.hf_extent.specs.declared.items.Located.{Located}
use Rattle.hf_extent.proofs.PlaceLaws.{length_at}
use Rattle.hf_extent.proofs.ItemLaws.{link_more, link_nowhere, link_of_another_kind, on_ok, same_kind, other_kind}
use Rattle.hf_extent.proofs.items.add_link.Goals as goal

pub returns-in-Some : goal.returns-in-Some
returns-in-Some c = λ locs links so_far.
    let within : c.in-Some.at < length c.args.items.now =
    omega (arith, c.in-Some.ensures.within, length_at c.args.ids.now (items_seen c.args.items.now) c.requires.known, length-map c.args.items.now item_seen) in
    let kind : bytes_eq c.args.link.now.kind.0 ILOC.0 ≡ true = same_kind c.args.link.now.kind ILOC (c.is.ensures.0 c.if-not-is.false) in
    on_ok c.add_sources.result c.add_sources.ensures (λ e. link_more c.args.ids.now c.args.items.now locs links c.args.link.now c.in-Some.at (get_or c.args.items.now c.in-Some.at c.index-items-at.result) c.add_sources.new.item c.requires.rising so_far kind c.in-Some.ensures.value within (ap (λ (r : Located). get_or c.args.items.now c.in-Some.at r) c.index-items-at.is) e)

pub returns-in-None : goal.returns-in-None
returns-in-None c = λ locs links so_far. link_nowhere c.args.ids.now c.args.items.now locs links c.args.link.now c.requires.rising so_far c.in-None.ensures.value

pub returns-then-not-is : goal.returns-then-not-is
returns-then-not-is c = λ locs links so_far. link_of_another_kind c.args.ids.now c.args.items.now locs links c.args.link.now so_far (other_kind c.args.link.now.kind ILOC (λ e. false≢true (sym c.if-not-is.true ∙ c.is.ensures.1 e)))
