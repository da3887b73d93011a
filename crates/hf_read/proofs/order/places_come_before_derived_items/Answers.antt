use Rattle.std.proofs.Common.{refl}
use Rattle.hf_read.proofs.Opened.{reads}
use Rattle.hf_read.proofs.order.places_come_before_derived_items.Goals as goal

pub returns-clause-method : goal.returns-clause-method
unfolding reads
returns-clause-method c = refl

pub returns-clause-end_of_file : goal.returns-clause-end_of_file
unfolding reads
returns-clause-end_of_file c = refl

pub returns-clause-misfit : goal.returns-clause-misfit
unfolding reads
returns-clause-misfit c = refl

pub returns-clause-circle : goal.returns-clause-circle
unfolding reads
returns-clause-circle c = refl
