use Rattle.std.proofs.Common.{length}
use Rattle.std.specs.List.{flat_map}
use Rattle.hf_text.specs.Texts.{byte_text}
use Rattle.hf_text.proofs.Left.{Leaves}
use Rattle.hf_text.proofs.listing.give_bytes.Given as goal

abbrev pub invariant-loop-rest : goal.invariant-loop-rest
invariant-loop-rest g l = Leaves (g.D.Desk.outside l.fn.desk) l.fn.page (flat_map byte_text l.bytes) (flat_map byte_text l.rest) (g.D.Desk.outside l.desk) l.page

abbrev pub decreases-loop-rest : goal.decreases-loop-rest
decreases-loop-rest g l = length l.rest
