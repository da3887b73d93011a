use Rattle.std.proofs.Common.{refl}
use Rattle.hf_read.specs.WorkedFiles.{file_cut_entry, file_three_bytes, file_no_property, file_dangling, file_cycle, file_grid_of_47}
use Rattle.hf_read.proofs.Opened.{reads}
use Rattle.hf_read.proofs.worked.entries_are_refused.Goals as goal

pub returns-clause-cut_entry : goal.returns-clause-cut_entry
unfolding reads file_cut_entry
returns-clause-cut_entry c = refl

pub returns-clause-three_bytes : goal.returns-clause-three_bytes
unfolding reads file_three_bytes
returns-clause-three_bytes c = refl

pub returns-clause-no_property : goal.returns-clause-no_property
unfolding reads file_no_property
returns-clause-no_property c = refl

pub returns-clause-dangling : goal.returns-clause-dangling
unfolding reads file_dangling
returns-clause-dangling c = refl

pub returns-clause-cycle : goal.returns-clause-cycle
unfolding reads file_cycle
returns-clause-cycle c = refl

pub returns-clause-grid_of_47 : goal.returns-clause-grid_of_47
unfolding reads file_grid_of_47
returns-clause-grid_of_47 c = refl
