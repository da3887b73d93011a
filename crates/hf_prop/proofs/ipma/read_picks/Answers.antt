use Rattle.std.proofs.Common.{◌-◌, ◌+◌, arith, length-append}
use Rattle.std.proofs.lemmas.Result.{err_from_is_err_and}
use Rattle.hf_base.specs.Reading.{times}
use Rattle.hf_base.specs.TimesLaws.{goes_on, stops, is_done}
use Rattle.hf_prop.specs.declared.assoc.Pick.{Pick}
use Rattle.hf_prop.specs.Ipma.{pick_at}
use Rattle.hf_prop.specs.Tables.{pick_bytes}
use Rattle.hf_prop.proofs.ipma.read_picks.Goals as goal

pub returns-in_err-pick-clause-exact : goal.returns-in_err-pick-clause-exact
returns-in_err-pick-clause-exact c =
    let p = err_from_is_err_and c.from_residual-in_err-pick.result c.from_residual-in_err-pick.ensures.1 in
    let read = pick_at c.args.short (pick_bytes c.args.two_bytes) in
    rw (p.1, p.2) (stops read c.loop.picks (c.args.count - c.loop.counter) (c.args.count - (c.loop.counter + 1)) c.loop.rest.now c.in_err-pick.field-0.0 (times read c.args.count c.args.bytes.now) (omega arith) c.in_err-pick.ensures c.loop.invariant.read)

pub loop-preserved : goal.loop-preserved
loop-preserved c =
    let read = pick_at c.args.short (pick_bytes c.args.two_bytes) in
    let pick = c.in_ok-pick.pick in
    record {
      read = rw c.in_ok-push.ensures.pushed (goes_on read c.loop.picks (c.args.count - c.loop.counter) (c.args.count - (c.loop.counter + 1)) c.loop.rest.now pick c.in_ok-pick.after.now (times read c.args.count c.args.bytes.now) (omega arith) c.in_ok-pick.ensures c.loop.invariant.read);
      count = rw c.in_ok-push.ensures.pushed (omega (arith, length-append {A = Pick}));
    }

pub returns-clause-exact : goal.returns-clause-exact
returns-clause-exact c =
    let read = pick_at c.args.short (pick_bytes c.args.two_bytes) in
    is_done read c.loop.picks (c.args.count - c.loop.counter) c.loop.rest.now (times read c.args.count c.args.bytes.now) (omega arith) c.loop.invariant.read
