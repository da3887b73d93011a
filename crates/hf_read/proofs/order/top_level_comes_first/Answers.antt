use Rattle.std.proofs.Common.{refl}
use Rattle.hf_read.proofs.Opened.{reads}
use Rattle.hf_read.proofs.order.top_level_comes_first.Goals as goal

pub returns-clause-framing : goal.returns-clause-framing
unfolding reads
returns-clause-framing c = refl

pub returns-clause-framing_of_the_last : goal.returns-clause-framing_of_the_last
unfolding reads
returns-clause-framing_of_the_last c = refl

pub returns-clause-brands : goal.returns-clause-brands
unfolding reads
returns-clause-brands c = refl

pub returns-clause-mif1 : goal.returns-clause-mif1
unfolding reads
returns-clause-mif1 c = refl

pub returns-clause-movie : goal.returns-clause-movie
unfolding reads
returns-clause-movie c = refl

pub returns-clause-ftyp : goal.returns-clause-ftyp
unfolding reads
returns-clause-ftyp c = refl

pub returns-clause-movie_behind_meta : goal.returns-clause-movie_behind_meta
unfolding reads
returns-clause-movie_behind_meta c = refl

pub returns-clause-second_meta : goal.returns-clause-second_meta
unfolding reads
returns-clause-second_meta c = refl
