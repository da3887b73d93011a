use Rattle.std.proofs.Common.{refl}
use Rattle.hf_read.proofs.Opened.{reads}
use Rattle.hf_read.proofs.refused.framing_is_refused.Goals as goal

pub returns-clause-short : goal.returns-clause-short
unfolding reads
returns-clause-short c = refl

pub returns-clause-short_size : goal.returns-clause-short_size
unfolding reads
returns-clause-short_size c = refl

pub returns-clause-least_sizes : goal.returns-clause-least_sizes
unfolding reads
returns-clause-least_sizes c = refl

pub returns-clause-size_of_7 : goal.returns-clause-size_of_7
unfolding reads
returns-clause-size_of_7 c = refl

pub returns-clause-long_size_of_15 : goal.returns-clause-long_size_of_15
unfolding reads
returns-clause-long_size_of_15 c = refl

pub returns-clause-past_the_end : goal.returns-clause-past_the_end
unfolding reads
returns-clause-past_the_end c = refl

pub returns-clause-to_the_end : goal.returns-clause-to_the_end
unfolding reads
returns-clause-to_the_end c = refl

pub returns-clause-open_inside : goal.returns-clause-open_inside
unfolding reads
returns-clause-open_inside c = refl

pub returns-clause-past_meta : goal.returns-clause-past_meta
unfolding reads
returns-clause-past_meta c = refl

pub returns-clause-too_many : goal.returns-clause-too_many
unfolding reads
returns-clause-too_many c = refl

pub returns-clause-not_too_many : goal.returns-clause-not_too_many
unfolding reads
returns-clause-not_too_many c = refl
