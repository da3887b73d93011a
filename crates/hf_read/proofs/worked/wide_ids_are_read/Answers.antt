use Rattle.std.proofs.Common.{refl}
use Rattle.hf_read.specs.WorkedFiles.{file_wide, file_mixed, file_greatest}
use Rattle.hf_read.specs.WorkedStores.{store_greatest}
use Rattle.hf_worked.specs.WorkedStores.{two_widths}
use Rattle.hf_read.proofs.Opened.{reads}
use Rattle.hf_read.proofs.worked.wide_ids_are_read.Goals as goal

pub returns-clause-wide : goal.returns-clause-wide
unfolding reads file_wide two_widths
returns-clause-wide c = refl

pub returns-clause-mixed : goal.returns-clause-mixed
unfolding reads file_mixed two_widths
returns-clause-mixed c = refl

pub returns-clause-greatest : goal.returns-clause-greatest
unfolding reads file_greatest store_greatest
returns-clause-greatest c = refl
