use Rattle.std.proofs.Common.{take, Ok}
use Rattle.std.specs.List.{flat_map}
use Rattle.hf_desk.specs.Pages.{ByPut, Gives}
use Rattle.hf_store.specs.Table.{table_of}
use Rattle.hf_write.specs.Entries.{assoc_if_any}
use Rattle.hf_write.proofs.ipma.give_assocs.Given as goal

abbrev pub invariant-loop-i : goal.invariant-loop-i
invariant-loop-i g l = Gives ByPut (g.D.Desk.outside l.fn.desk) l.fn.page (flat_map (assoc_if_any l.plan.wide l.long (table_of l.store)) (take l.i (l.store.items))) (Ok tt) (g.D.Desk.outside l.desk) l.page
