use Rattle.std.proofs.Common.{drop}
use Rattle.std.specs.List.{flat_map}
use Rattle.hf_text.specs.Listing.{item_text}
use Rattle.hf_text.proofs.Left.{Leaves}
use Rattle.hf_text.proofs.listing.give_items.Given as goal

abbrev pub invariant-loop-i : goal.invariant-loop-i
invariant-loop-i g l = Leaves (g.D.Desk.outside l.fn.desk) l.fn.page (flat_map item_text l.store.items) (flat_map item_text (drop l.i l.store.items)) (g.D.Desk.outside l.desk) l.page
