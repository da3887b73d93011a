use Rattle.std.proofs.Common.{refl}
use Rattle.hf_read.proofs.Opened.{reads}
use Rattle.hf_samples.specs.RefusedRecords.{bad_record_files, bad_version_files, too_large_files, bad_width_files}
use Rattle.hf_samples.proofs.refused.records_are_refused.Goals as goal

pub returns-clause-bad_record : goal.returns-clause-bad_record
unfolding reads bad_record_files
returns-clause-bad_record c = refl

pub returns-clause-bad_version : goal.returns-clause-bad_version
unfolding reads bad_version_files
returns-clause-bad_version c = refl

pub returns-clause-too_large : goal.returns-clause-too_large
unfolding reads too_large_files
returns-clause-too_large c = refl

pub returns-clause-bad_width : goal.returns-clause-bad_width
unfolding reads bad_width_files
returns-clause-bad_width c = refl
