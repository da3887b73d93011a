use Rattle.std.proofs.Common.{refl}
use Rattle.hf_read.proofs.Opened.{reads}
use Rattle.hf_read.proofs.refused.tables_of_properties_are_refused.Goals as goal

pub returns-clause-framing : goal.returns-clause-framing
unfolding reads
returns-clause-framing c = refl

pub returns-clause-second_ipco : goal.returns-clause-second_ipco
unfolding reads
returns-clause-second_ipco c = refl

pub returns-clause-ipco_framing : goal.returns-clause-ipco_framing
unfolding reads
returns-clause-ipco_framing c = refl

pub returns-clause-two_ipma : goal.returns-clause-two_ipma
unfolding reads
returns-clause-two_ipma c = refl

pub returns-clause-short_ipma : goal.returns-clause-short_ipma
unfolding reads
returns-clause-short_ipma c = refl

pub returns-clause-version_2 : goal.returns-clause-version_2
unfolding reads
returns-clause-version_2 c = refl

pub returns-clause-no_count : goal.returns-clause-no_count
unfolding reads
returns-clause-no_count c = refl

pub returns-clause-no_entry : goal.returns-clause-no_entry
unfolding reads
returns-clause-no_entry c = refl

pub returns-clause-no_association : goal.returns-clause-no_association
unfolding reads
returns-clause-no_association c = refl

pub returns-clause-second_entry : goal.returns-clause-second_entry
unfolding reads
returns-clause-second_entry c = refl

pub returns-clause-past_the_last : goal.returns-clause-past_the_last
unfolding reads
returns-clause-past_the_last c = refl

pub returns-clause-the_last : goal.returns-clause-the_last
unfolding reads
returns-clause-the_last c = refl

pub returns-clause-number_0 : goal.returns-clause-number_0
unfolding reads
returns-clause-number_0 c = refl

pub returns-clause-no_ipco : goal.returns-clause-no_ipco
unfolding reads
returns-clause-no_ipco c = refl

pub returns-clause-of_no_item : goal.returns-clause-of_no_item
unfolding reads
returns-clause-of_no_item c = refl
