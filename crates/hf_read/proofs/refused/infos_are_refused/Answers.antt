use Rattle.std.proofs.Common.{refl}
use Rattle.hf_read.proofs.Opened.{reads}
use Rattle.hf_read.proofs.refused.infos_are_refused.Goals as goal

pub returns-clause-short_iinf : goal.returns-clause-short_iinf
unfolding reads
returns-clause-short_iinf c = refl

pub returns-clause-no_count : goal.returns-clause-no_count
unfolding reads
returns-clause-no_count c = refl

pub returns-clause-iinf_version_2 : goal.returns-clause-iinf_version_2
unfolding reads
returns-clause-iinf_version_2 c = refl

pub returns-clause-iinf_version_1 : goal.returns-clause-iinf_version_1
unfolding reads
returns-clause-iinf_version_1 c = refl

pub returns-clause-one_more : goal.returns-clause-one_more
unfolding reads
returns-clause-one_more c = refl

pub returns-clause-one_less : goal.returns-clause-one_less
unfolding reads
returns-clause-one_less c = refl

pub returns-clause-other_box : goal.returns-clause-other_box
unfolding reads
returns-clause-other_box c = refl

pub returns-clause-framing : goal.returns-clause-framing
unfolding reads
returns-clause-framing c = refl

pub returns-clause-short_infe : goal.returns-clause-short_infe
unfolding reads
returns-clause-short_infe c = refl

pub returns-clause-no_name : goal.returns-clause-no_name
unfolding reads
returns-clause-no_name c = refl

pub returns-clause-infe_version_1 : goal.returns-clause-infe_version_1
unfolding reads
returns-clause-infe_version_1 c = refl

pub returns-clause-infe_version_4 : goal.returns-clause-infe_version_4
unfolding reads
returns-clause-infe_version_4 c = refl

pub returns-clause-infe_version_3 : goal.returns-clause-infe_version_3
unfolding reads
returns-clause-infe_version_3 c = refl

pub returns-clause-zero_id : goal.returns-clause-zero_id
unfolding reads
returns-clause-zero_id c = refl

pub returns-clause-protected : goal.returns-clause-protected
unfolding reads
returns-clause-protected c = refl

pub returns-clause-double_item : goal.returns-clause-double_item
unfolding reads
returns-clause-double_item c = refl
