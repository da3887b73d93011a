use Rattle.std.proofs.Common.{refl}
use Rattle.hf_read.proofs.Opened.{reads}
use Rattle.hf_samples.specs.RefusedBoxes.{short_files, bad_size_files, open_size_files, no_ftyp_files, not_mif1_files, movie_files, no_meta_files, double_files}
use Rattle.hf_samples.specs.RefusedBoxes.{protection_box_files, xml_files, missing_files}
use Rattle.hf_samples.proofs.refused.boxes_are_refused.Goals as goal

pub returns-clause-short : goal.returns-clause-short
unfolding reads short_files
returns-clause-short c = refl

pub returns-clause-bad_size : goal.returns-clause-bad_size
unfolding reads bad_size_files
returns-clause-bad_size c = refl

pub returns-clause-open_size : goal.returns-clause-open_size
unfolding reads open_size_files
returns-clause-open_size c = refl

pub returns-clause-no_ftyp : goal.returns-clause-no_ftyp
unfolding reads no_ftyp_files
returns-clause-no_ftyp c = refl

pub returns-clause-not_mif1 : goal.returns-clause-not_mif1
unfolding reads not_mif1_files
returns-clause-not_mif1 c = refl

pub returns-clause-movie : goal.returns-clause-movie
unfolding reads movie_files
returns-clause-movie c = refl

pub returns-clause-no_meta : goal.returns-clause-no_meta
unfolding reads no_meta_files
returns-clause-no_meta c = refl

pub returns-clause-double : goal.returns-clause-double
unfolding reads double_files
returns-clause-double c = refl

pub returns-clause-protection_box : goal.returns-clause-protection_box
unfolding reads protection_box_files
returns-clause-protection_box c = refl

pub returns-clause-xml : goal.returns-clause-xml
unfolding reads xml_files
returns-clause-xml c = refl

pub returns-clause-missing : goal.returns-clause-missing
unfolding reads missing_files
returns-clause-missing c = refl
