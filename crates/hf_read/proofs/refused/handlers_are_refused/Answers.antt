use Rattle.std.proofs.Common.{refl}
use Rattle.hf_read.proofs.Opened.{reads}
use Rattle.hf_read.proofs.refused.handlers_are_refused.Goals as goal

pub returns-clause-short_hdlr : goal.returns-clause-short_hdlr
unfolding reads
returns-clause-short_hdlr c = refl

pub returns-clause-no_name : goal.returns-clause-no_name
unfolding reads
returns-clause-no_name c = refl

pub returns-clause-not_picture : goal.returns-clause-not_picture
unfolding reads
returns-clause-not_picture c = refl

pub returns-clause-short_pitm : goal.returns-clause-short_pitm
unfolding reads
returns-clause-short_pitm c = refl

pub returns-clause-no_id : goal.returns-clause-no_id
unfolding reads
returns-clause-no_id c = refl

pub returns-clause-version_2 : goal.returns-clause-version_2
unfolding reads
returns-clause-version_2 c = refl

pub returns-clause-version_1 : goal.returns-clause-version_1
unfolding reads
returns-clause-version_1 c = refl

pub returns-clause-no_primary : goal.returns-clause-no_primary
unfolding reads
returns-clause-no_primary c = refl

pub returns-clause-last_is_primary : goal.returns-clause-last_is_primary
unfolding reads
returns-clause-last_is_primary c = refl
