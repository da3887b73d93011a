use Rattle.std.proofs.Common.{refl}
use Rattle.hf_read.specs.WorkedFiles.{file_alternatives, file_tail, file_one_left, file_tail_of_less}
use Rattle.hf_read.specs.WorkedStores.{store_tail, store_one_left}
use Rattle.hf_worked.specs.WorkedStores.{two_alternatives, two_pictures}
use Rattle.hf_read.proofs.Opened.{reads}
use Rattle.hf_read.proofs.worked.groups_are_read.Goals as goal

pub returns-clause-alternatives : goal.returns-clause-alternatives
unfolding reads file_alternatives two_alternatives
returns-clause-alternatives c = refl

pub returns-clause-tail : goal.returns-clause-tail
unfolding reads file_tail store_tail
returns-clause-tail c = refl

pub returns-clause-one_left : goal.returns-clause-one_left
unfolding reads file_one_left store_one_left
returns-clause-one_left c = refl

pub returns-clause-tail_of_less : goal.returns-clause-tail_of_less
unfolding reads file_tail_of_less two_pictures
returns-clause-tail_of_less c = refl
