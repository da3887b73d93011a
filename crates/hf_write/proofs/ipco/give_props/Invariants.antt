use Rattle.std.proofs.Common.{take, Ok}
use Rattle.std.specs.List.{flat_map}
use Rattle.hf_desk.specs.Pages.{ByPut, Gives}
use Rattle.hf_store.specs.Table.{table_of}
use Rattle.hf_write.specs.Entries.{prop_box}
use Rattle.hf_write.proofs.ipco.give_props.Given as goal

abbrev pub invariant-loop-k : goal.invariant-loop-k
invariant-loop-k g l = Gives ByPut (g.D.Desk.outside l.fn.desk) l.fn.page (flat_map (prop_box) (take l.k (table_of l.store))) (Ok tt) (g.D.Desk.outside l.desk) l.page
