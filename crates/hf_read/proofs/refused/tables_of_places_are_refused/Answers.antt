use Rattle.std.proofs.Common.{refl}
use Rattle.hf_read.proofs.Opened.{reads}
use Rattle.hf_read.proofs.refused.tables_of_places_are_refused.Goals as goal

pub returns-clause-short : goal.returns-clause-short
unfolding reads
returns-clause-short c = refl

pub returns-clause-version_3 : goal.returns-clause-version_3
unfolding reads
returns-clause-version_3 c = refl

pub returns-clause-version_2 : goal.returns-clause-version_2
unfolding reads
returns-clause-version_2 c = refl

pub returns-clause-no_count : goal.returns-clause-no_count
unfolding reads
returns-clause-no_count c = refl

pub returns-clause-offset_of_5 : goal.returns-clause-offset_of_5
unfolding reads
returns-clause-offset_of_5 c = refl

pub returns-clause-length_of_1 : goal.returns-clause-length_of_1
unfolding reads
returns-clause-length_of_1 c = refl

pub returns-clause-base_of_2 : goal.returns-clause-base_of_2
unfolding reads
returns-clause-base_of_2 c = refl

pub returns-clause-index_of_6 : goal.returns-clause-index_of_6
unfolding reads
returns-clause-index_of_6 c = refl

pub returns-clause-no_index : goal.returns-clause-no_index
unfolding reads
returns-clause-no_index c = refl

pub returns-clause-all_widths : goal.returns-clause-all_widths
unfolding reads
returns-clause-all_widths c = refl

pub returns-clause-short_entry : goal.returns-clause-short_entry
unfolding reads
returns-clause-short_entry c = refl

pub returns-clause-short_part : goal.returns-clause-short_part
unfolding reads
returns-clause-short_part c = refl

pub returns-clause-second_entry : goal.returns-clause-second_entry
unfolding reads
returns-clause-second_entry c = refl

pub returns-clause-other_entry : goal.returns-clause-other_entry
unfolding reads
returns-clause-other_entry c = refl
