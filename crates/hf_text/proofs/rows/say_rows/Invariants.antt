use Rattle.std.proofs.Common.{[], take, Ok}
use Rattle.hf_desk.specs.Pages.{BySay, Gives}
use Rattle.hf_text.specs.Texts.{rows_text}
use Rattle.hf_text.proofs.rows.say_rows.Given as goal

abbrev pub invariant-loop-row : goal.invariant-loop-row
invariant-loop-row g l = Gives BySay (g.D.Desk.outside l.fn.desk) [] (rows_text (take l.row-index l.rows)) (Ok tt) (g.D.Desk.outside l.desk) l.page
