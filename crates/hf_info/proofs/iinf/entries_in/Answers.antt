use Rattle.std.proofs.Common.{arith}
use Rattle.hf_base.specs.declared.fault.ReadRefusal.TheVariants.{BadRecord}
use Rattle.hf_base.specs.declared.kinds.TheConstants.{IINF}
use Rattle.hf_info.proofs.ReadLemmas.{front_len, full_len}
use Rattle.hf_info.proofs.iinf.entries_in.Goals as goal

pub overflow_add-origin-2 : goal.overflow_add-origin-2
overflow_add-origin-2 c =
    let v = c.in_ok-version in
    let full = full_len (BadRecord IINF c.args.at) c.args.body.now ((v.version, v._flags), v.rest.now) v.ensures in
    omega (arith, full, c.from.ensures, c.requires)

pub overflow_add-origin-3 : goal.overflow_add-origin-3
overflow_add-origin-3 c =
    let v = c.in_ok-version in
    let n = c.in_ok-count in
    let full = full_len (BadRecord IINF c.args.at) c.args.body.now ((v.version, v._flags), v.rest.now) v.ensures in
    let count = front_len c.in_ok-width.width (BadRecord IINF c.args.at) v.rest.now (n.count, n.rest.now) n.ensures in
    omega (arith, full, count, c.from.ensures, c.from-2.ensures, c.requires)

pub of-requires : goal.of-requires
of-requires c =
    let v = c.in_ok-version in
    let n = c.in_ok-count in
    let full = full_len (BadRecord IINF c.args.at) c.args.body.now ((v.version, v._flags), v.rest.now) v.ensures in
    let count = front_len c.in_ok-width.width (BadRecord IINF c.args.at) v.rest.now (n.count, n.rest.now) n.ensures in
    omega (arith, full, count, c.from.ensures, c.from-2.ensures, c.requires)
