use Rattle.std.proofs.Common.{refl}
use Rattle.hf_read.proofs.Opened.{reads}
use Rattle.hf_read.proofs.limits.references_are_limited.Goals as goal

pub returns-clause-most : goal.returns-clause-most
unfolding reads
returns-clause-most c = refl

pub returns-clause-one_more : goal.returns-clause-one_more
unfolding reads
returns-clause-one_more c = refl

pub returns-clause-first : goal.returns-clause-first
unfolding reads
returns-clause-first c = refl
