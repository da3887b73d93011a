use Rattle.std.proofs.Common.{length}
use Rattle.hf_text.specs.Listing.{brand_fields}
use Rattle.hf_text.proofs.Left.{Leaves}
use Rattle.hf_text.proofs.listing.give_kinds.Given as goal

abbrev pub invariant-loop-rest : goal.invariant-loop-rest
invariant-loop-rest g l = Leaves (g.D.Desk.outside l.fn.desk) l.fn.page (brand_fields l.kinds) (brand_fields l.rest) (g.D.Desk.outside l.desk) l.page

abbrev pub decreases-loop-rest : goal.decreases-loop-rest
decreases-loop-rest g l = length l.rest
