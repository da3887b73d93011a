use Rattle.std.proofs.Common.{refl}
use Rattle.hf_read.proofs.Opened.{reads}
use Rattle.hf_read.proofs.refused.top_level_is_refused.Goals as goal

pub returns-clause-no_box : goal.returns-clause-no_box
unfolding reads
returns-clause-no_box c = refl

pub returns-clause-free_first : goal.returns-clause-free_first
unfolding reads
returns-clause-free_first c = refl

pub returns-clause-free_second : goal.returns-clause-free_second
unfolding reads
returns-clause-free_second c = refl

pub returns-clause-brands_cut : goal.returns-clause-brands_cut
unfolding reads
returns-clause-brands_cut c = refl

pub returns-clause-no_minor : goal.returns-clause-no_minor
unfolding reads
returns-clause-no_minor c = refl

pub returns-clause-major_alone : goal.returns-clause-major_alone
unfolding reads
returns-clause-major_alone c = refl

pub returns-clause-not_mif1 : goal.returns-clause-not_mif1
unfolding reads
returns-clause-not_mif1 c = refl

pub returns-clause-across_brands : goal.returns-clause-across_brands
unfolding reads
returns-clause-across_brands c = refl

pub returns-clause-last_brand : goal.returns-clause-last_brand
unfolding reads
returns-clause-last_brand c = refl

pub returns-clause-moov : goal.returns-clause-moov
unfolding reads
returns-clause-moov c = refl

pub returns-clause-moof : goal.returns-clause-moof
unfolding reads
returns-clause-moof c = refl

pub returns-clause-moov_inside : goal.returns-clause-moov_inside
unfolding reads
returns-clause-moov_inside c = refl

pub returns-clause-second_ftyp : goal.returns-clause-second_ftyp
unfolding reads
returns-clause-second_ftyp c = refl

pub returns-clause-second_meta : goal.returns-clause-second_meta
unfolding reads
returns-clause-second_meta c = refl

pub returns-clause-second_free : goal.returns-clause-second_free
unfolding reads
returns-clause-second_free c = refl

pub returns-clause-no_meta : goal.returns-clause-no_meta
unfolding reads
returns-clause-no_meta c = refl

pub returns-clause-meta_of_3 : goal.returns-clause-meta_of_3
unfolding reads
returns-clause-meta_of_3 c = refl

pub returns-clause-meta_of_4 : goal.returns-clause-meta_of_4
unfolding reads
returns-clause-meta_of_4 c = refl
