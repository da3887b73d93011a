use Rattle.std.proofs.Common.{Ok, take}
use Rattle.std.specs.List.{flat_map}
use Rattle.hf_base.specs.Number.{num}
use Rattle.hf_box.specs.Written.{id_width}
use Rattle.hf_desk.specs.Pages.{ByPut, Gives}
use Rattle.hf_links.proofs.ids.give_ids.Given as goal

abbrev pub invariant-loop-id : goal.invariant-loop-id
invariant-loop-id g l = Gives ByPut (g.D.Desk.outside l.fn.desk) l.fn.page (flat_map (λ id. num id (id_width l.wide)) (take l.id-index l.ids)) (Ok tt) (g.D.Desk.outside l.desk) l.page
