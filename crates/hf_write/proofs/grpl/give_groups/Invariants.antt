use Rattle.std.proofs.Common.{take, Ok}
use Rattle.std.specs.List.{flat_map}
use Rattle.hf_desk.specs.Pages.{ByPut, Gives}
use Rattle.hf_links.specs.Grpl.{group_box}
use Rattle.hf_write.proofs.grpl.give_groups.Given as goal

abbrev pub invariant-loop-i : goal.invariant-loop-i
invariant-loop-i g l = Gives ByPut (g.D.Desk.outside l.fn.desk) l.fn.page (flat_map (group_box) (take l.i (l.store.groups))) (Ok tt) (g.D.Desk.outside l.desk) l.page
