use Rattle.std.proofs.Common.{take, Ok}
use Rattle.std.specs.List.{flat_map}
use Rattle.hf_desk.specs.Pages.{ByPut, Gives}
use Rattle.hf_info.specs.Infe.{infe_box}
use Rattle.hf_store.specs.Layout.{infos_of}
use Rattle.hf_write.proofs.iinf.give_infes.Given as goal

abbrev pub invariant-loop-i : goal.invariant-loop-i
invariant-loop-i g l = Gives ByPut (g.D.Desk.outside l.fn.desk) l.fn.page (flat_map (infe_box l.wide) (take l.i (infos_of l.store.items))) (Ok tt) (g.D.Desk.outside l.desk) l.page
