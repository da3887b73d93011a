use Rattle.std.proofs.Common.{◌-◌, ◌+◌, ◌∷◌, [], arith, length-append}
use Rattle.std.proofs.lemmas.Result.{err_from_is_err_and}
use Rattle.hf_base.specs.Reading.{front, times}
use Rattle.hf_base.specs.TimesLaws.{goes_on, stops, is_done}
use Rattle.hf_links.proofs.ids.front_ids.Goals as goal

pub returns-in_err-id-clause-exact : goal.returns-in_err-id-clause-exact
returns-in_err-id-clause-exact c =
    let p = err_from_is_err_and c.from_residual-in_err-id.result c.from_residual-in_err-id.ensures.1 in
    let read = front c.args.width c.args.short in
    rw (p.1, p.2) (stops read c.loop.ids (c.args.count - c.loop.counter) (c.args.count - (c.loop.counter + 1)) c.loop.rest.now c.in_err-id.field-0.0 (times read c.args.count c.args.bytes.now) (omega arith) c.in_err-id.ensures c.loop.invariant.read)

pub loop-preserved : goal.loop-preserved
loop-preserved c =
    let read = front c.args.width c.args.short in
    let id = c.in_ok-id.id in
    let pushed = c.in_ok-push.ensures.pushed in
    record {
      read = rw pushed (goes_on read c.loop.ids (c.args.count - c.loop.counter) (c.args.count - (c.loop.counter + 1)) c.loop.rest.now id c.in_ok-id.after.now (times read c.args.count c.args.bytes.now) (omega arith) c.in_ok-id.ensures c.loop.invariant.read);
      many = rw pushed (omega (arith, length-append c.loop.ids (id ∷ []), c.loop.invariant.many));
    }

pub returns-clause-exact : goal.returns-clause-exact
returns-clause-exact c =
    let read = front c.args.width c.args.short in
    is_done read c.loop.ids (c.args.count - c.loop.counter) c.loop.rest.now (times read c.args.count c.args.bytes.now) (omega arith) c.loop.invariant.read
