use Rattle.std.proofs.Common.{refl, arith}
use Rattle.hf_desk.specs.Pages.{BySay}
use Rattle.hf_desk.proofs.Paging.{gives_nothing, gives_each, gives_each_stop, gives_all, say_end, say_stop}
use Rattle.hf_text.specs.Texts.{row_text}
use Rattle.hf_text.proofs.rows.say_rows.Goals as goal

pub loop-row-init : goal.loop-row-init
loop-row-init g c = rw c.new-page.ensures (gives_nothing BySay _ _)

pub loop-row-preserved : goal.loop-row-preserved
loop-row-preserved g c = gives_each row_text c.args.rows.now c.loop-row.row-index _ c.loop-row-test.true c.loop-row.invariant c.in_ok-give_row.ensures

pub returns-in_err-give_row : goal.returns-in_err-give_row
returns-in_err-give_row g c =
    let err = c.from_residual.ensures.0 in
    say_stop err err (gives_each_stop row_text c.args.rows.now c.loop-row.row-index _ c.loop-row-test.true refl err c.loop-row.invariant c.in_err-give_row.ensures)

pub returns : goal.returns
returns g c = say_end (gives_all row_text c.args.rows.now c.loop-row.row-index (omega arith) c.loop-row.invariant) c.end.ensures.writes
