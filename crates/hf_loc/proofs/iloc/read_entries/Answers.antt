use Rattle.std.proofs.Common.{◌-◌, ◌+◌, [], arith}
use Rattle.std.proofs.lemmas.Result.{err_from_is_err_and}
use Rattle.hf_base.specs.declared.limits.TheConstants.{ROWS}
use Rattle.hf_base.specs.Entries.{entries_from}
use Rattle.hf_loc.specs.Iloc.{entry_at}
use Rattle.hf_loc.specs.Views.{widths_in}
use Rattle.hf_loc.proofs.LoopLemmas.{goes_on, stops_short, doubles_short, is_done}
use Rattle.hf_loc.proofs.iloc.read_entries.Goals as goal

pub returns-in_err-loc : goal.returns-in_err-loc
returns-in_err-loc c =
    let p = err_from_is_err_and c.from_residual-in_err-loc.result c.from_residual-in_err-loc.ensures.1 in
    let w = widths_in c.args.widths.now in
    let i = c.loop.invariant in
    rw (p.1, p.2) (stops_short ROWS c.args.at c.loop.table.rows w c.loop.table.locs.items c.loop.rest.now i.table.rows (c.args.count - c.loop.counter) (c.args.count - (c.loop.counter + 1)) (omega arith) (entries_from (entry_at ROWS c.args.at w) [] c.args.count c.args.bytes.now) i.read c.in_err-loc.field-0.0 c.in_err-loc.ensures.exact)

pub returns-in_err-add : goal.returns-in_err-add
returns-in_err-add c =
    let p = err_from_is_err_and c.from_residual-in_err-add.result c.from_residual-in_err-add.ensures.1 in
    let w = widths_in c.args.widths.now in
    let i = c.loop.invariant in
    rw (p.1, p.2) (doubles_short ROWS c.args.at c.loop.table.rows w c.loop.table.locs.items c.loop.rest.now i.table.rows (c.args.count - c.loop.counter) (c.args.count - (c.loop.counter + 1)) (omega arith) (entries_from (entry_at ROWS c.args.at w) [] c.args.count c.args.bytes.now) i.read c.in_ok-loc.loc c.in_ok-loc.after.now c.in_err-add.field-0.0 c.in_ok-loc.ensures.exact c.in_err-add.ensures.exact)

pub loop-preserved : goal.loop-preserved
loop-preserved c =
    let w = widths_in c.args.widths.now in
    let i = c.loop.invariant in
    let read = goes_on ROWS c.args.at c.loop.table.rows w c.loop.table.locs.items c.loop.rest.now i.table.rows (c.args.count - c.loop.counter) (c.args.count - (c.loop.counter + 1)) (omega arith) (entries_from (entry_at ROWS c.args.at w) [] c.args.count c.args.bytes.now) i.read c.in_ok-loc.loc c.in_ok-loc.after.now tt c.in_ok-loc.ensures.exact c.in_ok-add.ensures.exact in
    record { table = c.in_ok-add.ensures.table; few = c.in_ok-add.ensures.few; read = rw c.in_ok-add.ensures.added read }

pub returns : goal.returns
returns c =
    let w = widths_in c.args.widths.now in
    is_done ROWS c.args.at w c.loop.table.locs.items (c.args.count - c.loop.counter) c.loop.rest.now (entries_from (entry_at ROWS c.args.at w) [] c.args.count c.args.bytes.now) (omega arith) c.loop.invariant.read
