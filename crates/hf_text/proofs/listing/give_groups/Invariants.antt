use Rattle.std.proofs.Common.{drop}
use Rattle.std.specs.List.{flat_map}
use Rattle.hf_text.specs.Listing.{group_text}
use Rattle.hf_text.proofs.Left.{Leaves}
use Rattle.hf_text.proofs.listing.give_groups.Given as goal

abbrev pub invariant-loop-i : goal.invariant-loop-i
invariant-loop-i g l = Leaves (g.D.Desk.outside l.fn.desk) l.fn.page (flat_map group_text l.store.groups) (flat_map group_text (drop l.i l.store.groups)) (g.D.Desk.outside l.desk) l.page
