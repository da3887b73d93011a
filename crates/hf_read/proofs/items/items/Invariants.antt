use Rattle.std.proofs.Common.{◌≡◌, ◌++◌, drop, map}
use Rattle.std.specs.Vec.Iter.{into_iter_items}
use Rattle.hf_info.specs.Infe.{infos_of}
use Rattle.hf_pieces.specs.Bytes.{joined}
use Rattle.hf_store.specs.Seen.{items_of}
use Rattle.hf_read.specs.Items.{items_with}
use Rattle.hf_read.proofs.items.items.Given as goal

abbrev pub invariant-loop-info : goal.invariant-loop-info
invariant-loop-info l =
    let bodies = map joined (into_iter_items l.bodies) in
    items_of l.items ++ items_with (infos_of (drop l.info-index l.infos)) bodies (into_iter_items l.props) (into_iter_items l.refs)
    ≡ items_with (infos_of l.infos) (map joined l.fn.bodies.items) l.fn.props.items l.fn.refs.items
