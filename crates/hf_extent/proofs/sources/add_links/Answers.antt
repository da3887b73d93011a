use Rattle.std.proofs.Common.{ap, sym, ◌∙◌, ◌++◌, ℕ, Option}
use Rattle.std.specs.Option.{option_map, option_to_list}
use Rattle.std.proofs.lemmas.List.{append-nil}
use Rattle.hf_base.specs.declared.loc.Extent.{Extent}
use Rattle.hf_extent.specs.Seen.{item_seen}
use Rattle.hf_extent.specs.Places.{place_of}
use Rattle.hf_extent.proofs.LinkLaws.{no_links, links_of_extents, pairs_more}
use Rattle.hf_extent.proofs.sources.add_links.Goals as goal

pub loop-extent-preserved : goal.loop-extent-preserved
loop-extent-preserved c =
    pairs_more (λ (e : Extent). option_map (λ (k : ℕ). (c.args.i, k)) (place_of c.args.ids.now (item_seen c.args.item.now) e)) c.args.item.now.extents.now c.loop-extent.extent-index _ c.args.pairs.now.items c.loop-extent.pairs.items c.add_link.new.pairs.items
    c.loop-extent.invariant c.loop-extent-test.true
    (c.in_ok-add_link.ensures ∙ ap (λ (o : Option ℕ). c.loop-extent.pairs.items ++ option_to_list (option_map (λ (k : ℕ). (c.args.i, k)) o)) c.source-place.ensures.value)

pub loop-extent-init : goal.loop-extent-init
loop-extent-init c = sym (append-nil c.args.pairs.now.items)

pub returns-then-item-ne2 : goal.returns-then-item-ne2
returns-then-item-ne2 c = sym (ap (λ l. c.args.pairs.now.items ++ l) (no_links c.args.ids.now c.args.i (item_seen c.args.item.now) c.if-item-ne2.true) ∙ append-nil c.args.pairs.now.items)

pub returns : goal.returns
returns c = links_of_extents c.args.ids.now c.args.i c.loop-extent.extent-index (item_seen c.args.item.now) c.args.pairs.now.items c.loop-extent.pairs.items c.loop-extent.invariant c.loop-extent-test.false c.if-item-ne2.false
