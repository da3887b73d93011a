use Rattle.std.proofs.Common.{◌-◌, ◌+◌, arith}
use Rattle.std.proofs.lemmas.Result.{err_from_is_err_and}
use Rattle.hf_base.specs.declared.limits.TheConstants.{ROWS}
use Rattle.hf_base.specs.Entries.{entries_from}
use Rattle.hf_prop.specs.Ipma.{entry_at}
use Rattle.hf_prop.specs.Tables.{pick_bytes}
use Rattle.hf_prop.proofs.LoopLemmas.{goes_on, stops_short, doubles_short, is_done}
use Rattle.hf_prop.proofs.ipma.read_entries.Goals as goal

pub returns-in_err-assoc-clause-exact : goal.returns-in_err-assoc-clause-exact
returns-in_err-assoc-clause-exact c =
    let p = err_from_is_err_and c.from_residual.result c.from_residual.ensures.1 in
    let width = c.args.width in
    let w = pick_bytes c.args.two_bytes in
    let i = c.loop.invariant in
    rw (p.1, p.2) (stops_short ROWS c.args.at c.loop.table.rows width w c.loop.table.assocs c.loop.rest.now i.table.rows (c.args.count - c.loop.counter) (c.args.count - (c.loop.counter + 1)) (omega arith) (entries_from (entry_at ROWS c.args.at width w) c.args.table.assocs c.args.count c.args.bytes.now) i.read c.in_err-assoc.field-0.0 c.in_err-assoc.ensures.exact)

pub returns-in_err-add-clause-exact : goal.returns-in_err-add-clause-exact
returns-in_err-add-clause-exact c =
    let p = err_from_is_err_and c.from_residual-in_err-add.result c.from_residual-in_err-add.ensures.1 in
    let width = c.args.width in
    let w = pick_bytes c.args.two_bytes in
    let i = c.loop.invariant in
    rw (p.1, p.2) (doubles_short ROWS c.args.at c.loop.table.rows width w c.loop.table.assocs c.loop.rest.now i.table.rows (c.args.count - c.loop.counter) (c.args.count - (c.loop.counter + 1)) (omega arith) (entries_from (entry_at ROWS c.args.at width w) c.args.table.assocs c.args.count c.args.bytes.now) i.read c.in_ok-assoc.assoc c.in_ok-assoc.after.now c.in_err-add.field-0.0 c.in_ok-assoc.ensures.exact c.in_err-add.ensures.exact)

pub loop-preserved : goal.loop-preserved
loop-preserved c =
    let width = c.args.width in
    let w = pick_bytes c.args.two_bytes in
    let i = c.loop.invariant in
    let read = goes_on ROWS c.args.at c.loop.table.rows width w c.loop.table.assocs c.loop.rest.now i.table.rows (c.args.count - c.loop.counter) (c.args.count - (c.loop.counter + 1)) (omega arith) (entries_from (entry_at ROWS c.args.at width w) c.args.table.assocs c.args.count c.args.bytes.now) i.read c.in_ok-assoc.assoc c.in_ok-assoc.after.now tt c.in_ok-assoc.ensures.exact c.in_ok-add.ensures.exact in
    record { table = c.in_ok-add.ensures.table; few = c.in_ok-add.ensures.few; read = rw c.in_ok-add.ensures.added read }

pub returns-clause-exact : goal.returns-clause-exact
returns-clause-exact c =
    let width = c.args.width in
    let w = pick_bytes c.args.two_bytes in
    is_done ROWS c.args.at width w c.loop.table.assocs (c.args.count - c.loop.counter) c.loop.rest.now (entries_from (entry_at ROWS c.args.at width w) c.args.table.assocs c.args.count c.args.bytes.now) (omega arith) c.loop.invariant.read
