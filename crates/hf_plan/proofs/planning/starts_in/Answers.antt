use Rattle.std.proofs.Common.{◌-◌, ap, arith}
use Rattle.hf_store.specs.Seen.{item_of}
use Rattle.hf_store.specs.declared.tally.Counts.{Counts}
use Rattle.hf_store.proofs.FewCounts.{counts_are_few}
use Rattle.hf_plan.proofs.Starts.{starts_first, bytes_within, starts_next, starts_end}
use Rattle.hf_plan.proofs.planning.starts_in.Goals as goal

pub loop-i-init : goal.loop-i-init
loop-i-init c = starts_first c.args.store.now c.args.total _ _ c.in_ok-starts.ensures.items (ap (λ (k : Counts). c.args.total - k.mdat) c.counts.ensures.value)

pub overflow_add-inner : goal.overflow_add-inner
overflow_add-inner c =
    let s = c.args.store.now in
    let within = bytes_within s c.loop-i.i (item_of c.at-item.result.now) c.at-item.ensures in
    omega (arith, within.0, c.loop-i.invariant.inner_is, c.idat_len-inner.ensures, (counts_are_few s c.len-i-end.ensures.valid).0.idat)

pub overflow_add-outer : goal.overflow_add-outer
overflow_add-outer c =
    let s = c.args.store.now in
    let within = bytes_within s c.loop-i.i (item_of c.at-item.result.now) c.at-item.ensures in
    omega (arith, within.1, c.loop-i.invariant.outer_is, c.mdat_len-outer.ensures, c.requires, c.ranges.total.fits)

pub loop-i-preserved : goal.loop-i-preserved
loop-i-preserved c =
    let s = c.args.store.now in
    starts_next s c.args.total c.loop-i.i c.loop-i.inner c.loop-i.outer _ _ (item_of c.at-item.result.now) c.loop-i.starts.items _ _ c.len-i-end.ensures.valid
    c.requires c.loop-i.invariant c.at-item.ensures c.in_ok-push.ensures.items c.start_at.ensures c.idat_len-inner.ensures c.mdat_len-outer.ensures

pub returns : goal.returns
returns c =
    let s = c.args.store.now in
    starts_end s c.args.total c.loop-i.i c.loop-i.inner c.loop-i.outer c.loop-i.starts.items c.loop-i.invariant (omega (arith, c.len-i-end.ensures.count))
