use Rattle.std.proofs.Common.{drop}
use Rattle.std.specs.List.{flat_map}
use Rattle.hf_text.specs.Lines.{number_field}
use Rattle.hf_text.proofs.Left.{Leaves}
use Rattle.hf_text.proofs.listing.give_ids.Given as goal

abbrev pub invariant-loop-i : goal.invariant-loop-i
invariant-loop-i g l =
    Leaves (g.D.Desk.outside l.fn.desk) l.fn.page (flat_map number_field l.ids) (flat_map number_field (drop l.i l.ids)) (g.D.Desk.outside l.desk) l.page
