use Rattle.std.proofs.Common.{refl}
use Rattle.hf_read.proofs.Opened.{reads}
use Rattle.hf_samples.specs.AcceptedFirst.{first_files}
use Rattle.hf_samples.specs.AcceptedSecond.{second_files}
use Rattle.hf_samples.specs.AcceptedThird.{third_files}
use Rattle.hf_samples.specs.AcceptedFourth.{fourth_files}
use Rattle.hf_samples.specs.AcceptedFifth.{fifth_files}
use Rattle.hf_samples.proofs.accepted.small_files_are_read.Goals as goal

pub returns-clause-first : goal.returns-clause-first
unfolding reads first_files
returns-clause-first c = refl

pub returns-clause-second : goal.returns-clause-second
unfolding reads second_files
returns-clause-second c = refl

pub returns-clause-third : goal.returns-clause-third
unfolding reads third_files
returns-clause-third c = refl

pub returns-clause-fourth : goal.returns-clause-fourth
unfolding reads fourth_files
returns-clause-fourth c = refl

pub returns-clause-fifth : goal.returns-clause-fifth
unfolding reads fifth_files
returns-clause-fifth c = refl
