use Rattle.std.proofs.Common.{take, Ok}
use Rattle.std.specs.List.{flat_map}
use Rattle.hf_desk.specs.Pages.{ByPut, Gives}
use Rattle.hf_links.specs.Iref.{reference_box}
use Rattle.hf_store.specs.Layout.{item_boxes}
use Rattle.hf_write.proofs.iref.give_refs.Given as goal

abbrev pub invariant-loop-i : goal.invariant-loop-i
invariant-loop-i g l = Gives ByPut (g.D.Desk.outside l.fn.desk) l.fn.page (flat_map (reference_box l.wide) (take l.i (item_boxes l.item.id l.item.refs))) (Ok tt) (g.D.Desk.outside l.desk) l.page
