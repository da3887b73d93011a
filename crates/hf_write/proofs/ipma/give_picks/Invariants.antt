use Rattle.std.proofs.Common.{take, map, Ok}
use Rattle.std.specs.List.{flat_map}
use Rattle.hf_desk.specs.Pages.{ByPut, Gives}
use Rattle.hf_prop.specs.Ipma.{association}
use Rattle.hf_store.specs.Picks.{pick_of}
use Rattle.hf_store.specs.Table.{table_of}
use Rattle.hf_write.proofs.ipma.give_picks.Given as goal

abbrev pub invariant-loop-j : goal.invariant-loop-j
invariant-loop-j g l = Gives ByPut (g.D.Desk.outside l.fn.desk) l.fn.page (flat_map (association l.long) (take l.j (map (pick_of (table_of l.store)) l.props))) (Ok tt) (g.D.Desk.outside l.desk) l.page
