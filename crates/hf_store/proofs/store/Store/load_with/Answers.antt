use Rattle.std.proofs.Common.{◌≡◌, ◌+◌, ◌-◌, ◌∙◌, ap, sym, arith}
use Rattle.hf_store.proofs.Rooms.{loads-with}
use Rattle.hf_store.proofs.store.Store.load_with.Goals as goal

pub overflow_sub-result : goal.overflow_sub-result
overflow_sub-result c =
    let loads =
    loads-with c.self.inside c.args.self.now c.self.view_is c.self.invariant c.args.i c.at.result.now c.at.ensures c.args.kept c.min.result c.as_slice-props.result.now c.args.more.now c.as_slice-props.ensures (omega (arith, c.min.ensures)) c.load_of-gone.result c.load_of-come.result
    c.load_of-gone.ensures.adds c.load_of-come.ensures.adds in
    omega (arith, loads.gone_kinds, c.kinds.ensures.count)

pub overflow_sub-kind_bytes : goal.overflow_sub-kind_bytes
overflow_sub-kind_bytes c =
    let loads =
    loads-with c.self.inside c.args.self.now c.self.view_is c.self.invariant c.args.i c.at.result.now c.at.ensures c.args.kept c.min.result c.as_slice-props.result.now c.args.more.now c.as_slice-props.ensures (omega (arith, c.min.ensures)) c.load_of-gone.result c.load_of-come.result
    c.load_of-gone.ensures.adds c.load_of-come.ensures.adds in
    omega (arith, loads.gone_bytes, c.kind_bytes.ensures)

pub returns-clause-kinds : goal.returns-clause-kinds
returns-clause-kinds c =
    let loads =
    loads-with c.self.inside c.args.self.now c.self.view_is c.self.invariant c.args.i c.at.result.now c.at.ensures c.args.kept c.min.result c.as_slice-props.result.now c.args.more.now c.as_slice-props.ensures (omega (arith, c.min.ensures)) c.load_of-gone.result c.load_of-come.result
    c.load_of-gone.ensures.adds c.load_of-come.ensures.adds in
    ap (λ n. n - c.load_of-gone.result.kinds + c.load_of-come.result.kinds) c.kinds.ensures.count ∙ loads.kinds

pub returns-clause-bytes : goal.returns-clause-bytes
returns-clause-bytes c =
    let loads =
    loads-with c.self.inside c.args.self.now c.self.view_is c.self.invariant c.args.i c.at.result.now c.at.ensures c.args.kept c.min.result c.as_slice-props.result.now c.args.more.now c.as_slice-props.ensures (omega (arith, c.min.ensures)) c.load_of-gone.result c.load_of-come.result
    c.load_of-gone.ensures.adds c.load_of-come.ensures.adds in
    omega (arith, c.saturating_add.ensures, c.kind_bytes.ensures, loads.bytes)
