use Rattle.std.proofs.Common.{◌≡◌, length, map, sym, ap, subst, ◌∙◌, arith, Some}
use Rattle.std.specs.Prelude.{slice_get}
use Rattle.std.specs.List.{flat_map}
use Rattle.hf_store.specs.Capped.{capped}
use Rattle.hf_store.specs.Seen.{items_of}
use Rattle.hf_store.specs.Sizes.{prop_box_size, IsFourProp}
use Rattle.hf_store.specs.Table.{props_of}
use Rattle.hf_table.specs.Table.{table}
use Rattle.hf_store.proofs.BoxLengths.{length-box}
use Rattle.hf_store.proofs.Measured.{first_stands, item_there, prop_there, body_is, sum-next-at}
use Rattle.hf_store.proofs.Spots.{holds_here}
use Rattle.hf_store.proofs.Tallied.{sum-all}
use Rattle.hf_store.proofs.Uses.{all-mapped}
use Rattle.hf_store.proofs.measuring.props_size.Goals as goal

pub props_at-requires : goal.props_at-requires
props_at-requires c =
    let h = first_stands (map props_of (items_of c.args.lists.now.items.now)) c.args.table.now c.loop-k.k c.first-i.result c.requires.table (omega (arith, c.loop-k-test.true, c.kinds-k-end.ensures.table _ c.requires.table))
    c.first-i.ensures.first in
    item_there _ c.first-i.result.0 c.first-i.result.1 h.0 h.2

pub bounds-props_at-j : goal.bounds-props_at-j
bounds-props_at-j c =
    let h = first_stands (map props_of (items_of c.args.lists.now.items.now)) c.args.table.now c.loop-k.k c.first-i.result c.requires.table (omega (arith, c.loop-k-test.true, c.kinds-k-end.ensures.table _ c.requires.table))
    c.first-i.ensures.first in
    prop_there _ c.first-i.result.0 c.first-i.result.1 h.0 h.2 c.props_at.result.now c.props_at.ensures

pub offset_bounds-props_at-j : goal.offset_bounds-props_at-j
offset_bounds-props_at-j c =
    let h = first_stands (map props_of (items_of c.args.lists.now.items.now)) c.args.table.now c.loop-k.k c.first-i.result c.requires.table (omega (arith, c.loop-k-test.true, c.kinds-k-end.ensures.table _ c.requires.table))
    c.first-i.ensures.first in
    let within = prop_there _ c.first-i.result.0 c.first-i.result.1 h.0 h.2 c.props_at.result.now c.props_at.ensures in
    omega (arith, within, c.props_at.type_inv)

pub loop-k-preserved : goal.loop-k-preserved
loop-k-preserved c =
    let is = items_of c.args.lists.now.items.now in
    let ps = table (flat_map props_of is) in
    let h = first_stands (map props_of (items_of c.args.lists.now.items.now)) c.args.table.now c.loop-k.k c.first-i.result c.requires.table (omega (arith, c.loop-k-test.true, c.kinds-k-end.ensures.table _ c.requires.table))
    c.first-i.ensures.first in
    let p = h.0 in
    let at : slice_get ps c.loop-k.k ≡ Some p = subst (λ qs. slice_get (table qs) c.loop-k.k ≡ Some p) (all-mapped is) h.1 in
    let held = c.index-props_at-j.result in
    let body = body_is _ c.first-i.result.0 c.first-i.result.1 p h.2 c.props_at.result.now c.props_at.ensures held c.index-props_at-j.is in
    let size : c.boxed.result ≡ capped (prop_box_size p) =
    c.boxed.ensures (length p.body) (omega (arith, ap length c.as_slice.ensures, body)) ∙ ap capped (sym (length-box p.kind p.body (holds_here IsFourProp ps c.loop-k.k p c.requires.fours at)))
    in
    sum-next-at prop_box_size ps c.loop-k.k p c.loop-k.sum c.boxed.result c.saturating_add-sum.result at c.loop-k.invariant size c.saturating_add-sum.ensures

pub returns : goal.returns
returns c =
    let is = items_of c.args.lists.now.items.now in
    let all = c.kinds-k-end.ensures.table (map props_of is) c.requires.table ∙ ap (λ qs. length (table qs)) (all-mapped is) in
    c.loop-k.invariant ∙ sum-all prop_box_size (table (flat_map props_of is)) c.loop-k.k (omega (arith, c.loop-k-test.false, all))
