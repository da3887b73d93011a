use Rattle.std.proofs.Common.{refl}
use Rattle.hf_read.proofs.Opened.{reads}
use Rattle.hf_read.proofs.refused.places_are_refused.Goals as goal

pub returns-clause-external : goal.returns-clause-external
unfolding reads
returns-clause-external c = refl

pub returns-clause-external_of_none : goal.returns-clause-external_of_none
unfolding reads
returns-clause-external_of_none c = refl

pub returns-clause-method_3 : goal.returns-clause-method_3
unfolding reads
returns-clause-method_3 c = refl

pub returns-clause-method_2 : goal.returns-clause-method_2
unfolding reads
returns-clause-method_2 c = refl

pub returns-clause-zero_length : goal.returns-clause-zero_length
unfolding reads
returns-clause-zero_length c = refl

pub returns-clause-zero_length_at_1 : goal.returns-clause-zero_length_at_1
unfolding reads
returns-clause-zero_length_at_1 c = refl

pub returns-clause-two_zero_lengths : goal.returns-clause-two_zero_lengths
unfolding reads
returns-clause-two_zero_lengths c = refl

pub returns-clause-whole_idat : goal.returns-clause-whole_idat
unfolding reads
returns-clause-whole_idat c = refl

pub returns-clause-no_idat : goal.returns-clause-no_idat
unfolding reads
returns-clause-no_idat c = refl

pub returns-clause-no_idat_without_parts : goal.returns-clause-no_idat_without_parts
unfolding reads
returns-clause-no_idat_without_parts c = refl

pub returns-clause-no_reference : goal.returns-clause-no_reference
unfolding reads
returns-clause-no_reference c = refl

pub returns-clause-reference_to_none : goal.returns-clause-reference_to_none
unfolding reads
returns-clause-reference_to_none c = refl

pub returns-clause-index_0 : goal.returns-clause-index_0
unfolding reads
returns-clause-index_0 c = refl

pub returns-clause-index_2 : goal.returns-clause-index_2
unfolding reads
returns-clause-index_2 c = refl

pub returns-clause-index_1 : goal.returns-clause-index_1
unfolding reads
returns-clause-index_1 c = refl

pub returns-clause-in_itself : goal.returns-clause-in_itself
unfolding reads
returns-clause-in_itself c = refl

pub returns-clause-in_each_other : goal.returns-clause-in_each_other
unfolding reads
returns-clause-in_each_other c = refl

pub returns-clause-past_the_file : goal.returns-clause-past_the_file
unfolding reads
returns-clause-past_the_file c = refl

pub returns-clause-whole_file : goal.returns-clause-whole_file
unfolding reads
returns-clause-whole_file c = refl

pub returns-clause-past_idat : goal.returns-clause-past_idat
unfolding reads
returns-clause-past_idat c = refl

pub returns-clause-end_of_idat : goal.returns-clause-end_of_idat
unfolding reads
returns-clause-end_of_idat c = refl

pub returns-clause-past_the_item : goal.returns-clause-past_the_item
unfolding reads
returns-clause-past_the_item c = refl

pub returns-clause-end_of_the_item : goal.returns-clause-end_of_the_item
unfolding reads
returns-clause-end_of_the_item c = refl
