use Rattle.std.proofs.Common.{refl}
use Rattle.hf_read.specs.WorkedFiles.{file_nothing, file_no_meta, file_movie, file_too_long, file_handler_of_147, file_handler_of_146}
use Rattle.hf_read.proofs.Opened.{reads}
use Rattle.hf_read.proofs.worked.first_boxes_are_refused.Goals as goal

pub returns-clause-nothing : goal.returns-clause-nothing
unfolding reads file_nothing
returns-clause-nothing c = refl

pub returns-clause-no_meta : goal.returns-clause-no_meta
unfolding reads file_no_meta
returns-clause-no_meta c = refl

pub returns-clause-movie : goal.returns-clause-movie
unfolding reads file_movie
returns-clause-movie c = refl

pub returns-clause-too_long : goal.returns-clause-too_long
unfolding reads file_too_long
returns-clause-too_long c = refl

pub returns-clause-handler_of_147 : goal.returns-clause-handler_of_147
unfolding reads file_handler_of_147
returns-clause-handler_of_147 c = refl

pub returns-clause-handler_of_146 : goal.returns-clause-handler_of_146
unfolding reads file_handler_of_146
returns-clause-handler_of_146 c = refl
