use Rattle.std.proofs.Common.{arith}
use Rattle.hf_base.specs.declared.fault.ReadRefusal.TheVariants.{BadRecord}
use Rattle.hf_base.specs.declared.kinds.TheConstants.{IREF}
use Rattle.hf_links.proofs.IrefLemmas.{length-behind}
use Rattle.hf_links.proofs.iref.links_of.Goals as goal

pub overflow_add-at-2 : goal.overflow_add-at-2
overflow_add-at-2 c =
    let v = c.in_ok-version in
    let len = length-behind (BadRecord IREF c.args.view.now.at) c.args.view.now.body.now ((v.version, v._flags), v.inner.now) v.ensures in
    omega (arith, len, c.requires, c.from.ensures)

pub of-requires : goal.of-requires
of-requires c =
    let v = c.in_ok-version in
    let len = length-behind (BadRecord IREF c.args.view.now.at) c.args.view.now.body.now ((v.version, v._flags), v.inner.now) v.ensures in
    omega (arith, len, c.requires, c.from.ensures)
