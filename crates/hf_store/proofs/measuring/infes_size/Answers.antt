use Rattle.std.proofs.Common.{◌∙◌, arith}
use Rattle.std.proofs.lemmas.List.{length-map}
use Rattle.hf_store.specs.Seen.{item_of, items_of}
use Rattle.hf_store.specs.Sizes.{infe_size, IsFourItem}
use Rattle.hf_store.proofs.Mapped.{here_at}
use Rattle.hf_store.proofs.Measured.{view-next}
use Rattle.hf_store.proofs.Spots.{get_map, holds_here}
use Rattle.hf_store.proofs.Tallied.{sum-all}
use Rattle.hf_store.proofs.measuring.infes_size.Goals as goal

pub loop-item-preserved : goal.loop-item-preserved
loop-item-preserved c =
    let is = c.args.items.now in
    let k = c.loop-item.item-index in
    let i = c.item-item.result in
    let four = holds_here IsFourItem (items_of is) k (item_of i) c.requires (get_map item_of is k i (here_at is k i c.loop-item-test.true c.item-item.is)) in
    view-next item_of (infe_size c.args.wide) is k i c.loop-item.sum c.infe_size.result c.saturating_add-sum.result c.loop-item-test.true c.item-item.is c.loop-item.invariant (c.infe_size.ensures four) c.saturating_add-sum.ensures

pub returns : goal.returns
returns c = c.loop-item.invariant ∙ sum-all (infe_size c.args.wide) (items_of c.args.items.now) c.loop-item.item-index (omega (arith, c.loop-item-test.false, length-map c.args.items.now item_of))
