use Rattle.std.proofs.Common.{refl}
use Rattle.hf_read.proofs.Opened.{reads}
use Rattle.hf_read.proofs.refused.derived_items_are_refused.Goals as goal

pub returns-clause-no_input : goal.returns-clause-no_input
unfolding reads
returns-clause-no_input c = refl

pub returns-clause-two_inputs : goal.returns-clause-two_inputs
unfolding reads
returns-clause-two_inputs c = refl

pub returns-clause-one_input : goal.returns-clause-one_input
unfolding reads
returns-clause-one_input c = refl

pub returns-clause-grid_of_two_with_one : goal.returns-clause-grid_of_two_with_one
unfolding reads
returns-clause-grid_of_two_with_one c = refl

pub returns-clause-grid_of_two : goal.returns-clause-grid_of_two
unfolding reads
returns-clause-grid_of_two c = refl

pub returns-clause-grid_of_7_bytes : goal.returns-clause-grid_of_7_bytes
unfolding reads
returns-clause-grid_of_7_bytes c = refl

pub returns-clause-of_itself : goal.returns-clause-of_itself
unfolding reads
returns-clause-of_itself c = refl

pub returns-clause-of_one_in_a_circle : goal.returns-clause-of_one_in_a_circle
unfolding reads
returns-clause-of_one_in_a_circle c = refl

pub returns-clause-of_another : goal.returns-clause-of_another
unfolding reads
returns-clause-of_another c = refl

pub returns-clause-thumbnails_of_each_other : goal.returns-clause-thumbnails_of_each_other
unfolding reads
returns-clause-thumbnails_of_each_other c = refl
