use Rattle.std.proofs.Common.{◌++◌, ◌+◌, List, ap, map, drop, sym, ◌∙◌, arith}
use Rattle.std.specs.Vec.Iter.{into_iter_items}
use Rattle.std.proofs.lemmas.List.{append-nil, drop_all, drop_more}
use Rattle.hf_info.specs.Infe.{infos_of}
use Rattle.hf_info.specs.declared.infe.Info.{Info}
use Rattle.hf_pieces.specs.Bytes.{joined}
use Rattle.hf_store.specs.Seen.{items_of}
use Rattle.hf_read.specs.Items.{items_with}
use Rattle.hf_read.proofs.items.items.Goals as goal

pub loop-info-preserved : goal.loop-info-preserved
loop-info-preserved c =
    let l = c.loop-info in
    let bodies = map joined (into_iter_items l.bodies) in
    let items = λ (infos : List Info). items_of l.items ++ items_with (infos_of infos) bodies (into_iter_items l.props) (into_iter_items l.refs) in
    c.in_ok-add_item.ensures (infos_of (drop (l.info-index + 1) c.args.infos.now))
    ∙ sym (ap items (drop_more c.args.infos.now l.info-index _ c.loop-info-test.true)) ∙ l.invariant

pub returns : goal.returns
returns c =
    let l = c.loop-info in
    let bodies = map joined (into_iter_items l.bodies) in
    let items = λ (infos : List Info). items_of l.items ++ items_with (infos_of infos) bodies (into_iter_items l.props) (into_iter_items l.refs) in
    sym (append-nil (items_of l.items))
    ∙ sym (ap items (drop_all l.info-index c.args.infos.now (omega (arith, c.loop-info-test.false, l.auto.info-index-end)))) ∙ l.invariant
