use Rattle.std.proofs.Common.{take, Ok}
use Rattle.hf_pieces.specs.Bytes.{joined}
use Rattle.hf_desk.specs.Pages.{ByPut, Gives}
use Rattle.hf_write.proofs.bodies.give_pieces.Given as goal

abbrev pub invariant-loop-i : goal.invariant-loop-i
invariant-loop-i g l = Gives ByPut (g.D.Desk.outside l.fn.desk) l.fn.page (joined (take l.i l.pieces)) (Ok tt) (g.D.Desk.outside l.desk) l.page
