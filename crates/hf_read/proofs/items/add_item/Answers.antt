use Rattle.std.proofs.Common.{arith, ap, map, sym, ◌++◌}
use Rattle.std.proofs.lemmas.List.{nil_from_length}
use Rattle.std.specs.Vec.Iter.{into_iter_items}
use Rattle.hf_info.specs.Infe.{info_of}
use Rattle.hf_pieces.specs.Bytes.{joined}
use Rattle.hf_store.specs.Seen.{items_of}
use Rattle.hf_read.proofs.MadeItems.{bodies_end, props_end, refs_end}
use Rattle.hf_read.proofs.items.add_item.Goals as goal

pub returns-in_default : goal.returns-in_default
returns-in_default c = λ infos.
    let old = into_iter_items c.args.bodies.now in
    let new = into_iter_items c.next.new.self in
    let was = nil_from_length old (omega (arith, c.args.bodies.now.rest.ok.0, c.in_default.ensures.cases.0)) in
    let is = nil_from_length new (omega (arith, c.next.new.self.rest.ok.0, c.in_default.ensures.cases.1)) in
    let none = bodies_end (info_of c.args.info.now) infos old new (into_iter_items c.args.props.now) (into_iter_items c.args.refs.now) was is in
    ap (λ l. items_of c.args.items.now ++ l) (sym none)

pub returns-in_default-next : goal.returns-in_default-next
returns-in_default-next c = λ infos.
    let bodies = map joined (into_iter_items c.args.bodies.now) in
    let left = map joined (into_iter_items c.next.new.self) in
    let old = into_iter_items c.args.props.now in
    let new = into_iter_items c.next-2.new.self in
    let was = nil_from_length old (omega (arith, c.args.props.now.rest.ok.0, c.in_default-next.ensures.cases.0)) in
    let is = nil_from_length new (omega (arith, c.next-2.new.self.rest.ok.0, c.in_default-next.ensures.cases.1)) in
    let none = props_end (info_of c.args.info.now) infos bodies left old new (into_iter_items c.args.refs.now) was is in
    ap (λ l. items_of c.args.items.now ++ l) (sym none)

pub returns-in_default-next-2 : goal.returns-in_default-next-2
returns-in_default-next-2 c = λ infos.
    let bodies = map joined (into_iter_items c.args.bodies.now) in
    let left = map joined (into_iter_items c.next.new.self) in
    let props = into_iter_items c.args.props.now in
    let behind = into_iter_items c.next-2.new.self in
    let old = into_iter_items c.args.refs.now in
    let new = into_iter_items c.next-3.new.self in
    let was = nil_from_length old (omega (arith, c.args.refs.now.rest.ok.0, c.in_default-next-2.ensures.cases.0)) in
    let is = nil_from_length new (omega (arith, c.next-3.new.self.rest.ok.0, c.in_default-next-2.ensures.cases.1)) in
    let none = refs_end (info_of c.args.info.now) infos bodies left props behind old new was is in
    ap (λ l. items_of c.args.items.now ++ l) (sym none)
