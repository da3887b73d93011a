use Rattle.std.proofs.Common.{◌≡◌, length}
use Rattle.hf_read.specs.TopLevel.{has_brand}
use Rattle.hf_read.proofs.top_level.has_compatible.Given as goal

abbrev pub invariant-loop-rest : goal.invariant-loop-rest
invariant-loop-rest l = has_brand l.brand.0 l.rest ≡ has_brand l.brand.0 l.compatible

abbrev pub decreases-loop-rest : goal.decreases-loop-rest
decreases-loop-rest l = length l.rest
