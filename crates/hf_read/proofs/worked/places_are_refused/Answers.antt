use Rattle.std.proofs.Common.{refl}
use Rattle.hf_read.specs.WorkedFiles.{file_circle, file_circle_with_tail, file_past_the_end, file_elsewhere, file_far_past_the_end}
use Rattle.hf_read.proofs.Opened.{reads}
use Rattle.hf_read.proofs.worked.places_are_refused.Goals as goal

pub returns-clause-circle : goal.returns-clause-circle
unfolding reads file_circle
returns-clause-circle c = refl

pub returns-clause-circle_with_tail : goal.returns-clause-circle_with_tail
unfolding reads file_circle_with_tail
returns-clause-circle_with_tail c = refl

pub returns-clause-past_the_end : goal.returns-clause-past_the_end
unfolding reads file_past_the_end
returns-clause-past_the_end c = refl

pub returns-clause-elsewhere : goal.returns-clause-elsewhere
unfolding reads file_elsewhere
returns-clause-elsewhere c = refl

pub returns-clause-far_past_the_end : goal.returns-clause-far_past_the_end
unfolding reads file_far_past_the_end
returns-clause-far_past_the_end c = refl
