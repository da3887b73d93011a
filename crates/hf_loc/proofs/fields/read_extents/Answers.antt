use Rattle.std.proofs.Common.{◌-◌, ◌+◌, arith, length-append}
use Rattle.std.proofs.lemmas.Result.{err_from_is_err_and}
use Rattle.hf_base.specs.Reading.{times}
use Rattle.hf_base.specs.TimesLaws.{goes_on, stops, is_done}
use Rattle.hf_base.specs.declared.loc.Extent.{Extent}
use Rattle.hf_loc.specs.Iloc.{extent_at}
use Rattle.hf_loc.specs.Views.{widths_in}
use Rattle.hf_loc.proofs.fields.read_extents.Goals as goal

pub returns-in_err-extent-clause-exact : goal.returns-in_err-extent-clause-exact
returns-in_err-extent-clause-exact c =
    let p = err_from_is_err_and c.from_residual-in_err-extent.result c.from_residual-in_err-extent.ensures.1 in
    let read = extent_at c.args.short (widths_in c.args.widths.now) in
    rw (p.1, p.2) (stops read c.loop.extents (c.args.count - c.loop.counter) (c.args.count - (c.loop.counter + 1)) c.loop.rest.now c.in_err-extent.field-0.0 (times read c.args.count c.args.bytes.now) (omega arith) c.in_err-extent.ensures c.loop.invariant.read)

pub loop-preserved : goal.loop-preserved
loop-preserved c =
    let read = extent_at c.args.short (widths_in c.args.widths.now) in
    let extent = c.in_ok-extent.extent in
    record {
      read = rw c.in_ok-push.ensures.pushed (goes_on read c.loop.extents (c.args.count - c.loop.counter) (c.args.count - (c.loop.counter + 1)) c.loop.rest.now extent c.in_ok-extent.after.now (times read c.args.count c.args.bytes.now) (omega arith) c.in_ok-extent.ensures c.loop.invariant.read);
      count = rw c.in_ok-push.ensures.pushed (omega (arith, length-append {A = Extent}));
    }

pub returns-clause-exact : goal.returns-clause-exact
returns-clause-exact c =
    let read = extent_at c.args.short (widths_in c.args.widths.now) in
    is_done read c.loop.extents (c.args.count - c.loop.counter) c.loop.rest.now (times read c.args.count c.args.bytes.now) (omega arith) c.loop.invariant.read
