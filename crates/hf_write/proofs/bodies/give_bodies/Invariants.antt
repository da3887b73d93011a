use Rattle.std.proofs.Common.{take, Ok}
use Rattle.std.specs.List.{flat_map}
use Rattle.hf_desk.specs.Pages.{ByPut, Gives}
use Rattle.hf_write.specs.Entries.{bytes_if}
use Rattle.hf_write.proofs.bodies.give_bodies.Given as goal

abbrev pub invariant-loop-i : goal.invariant-loop-i
invariant-loop-i g l = Gives ByPut (g.D.Desk.outside l.fn.desk) l.fn.page (flat_map (bytes_if l.inner) (take l.i (l.store.items))) (Ok tt) (g.D.Desk.outside l.desk) l.page
