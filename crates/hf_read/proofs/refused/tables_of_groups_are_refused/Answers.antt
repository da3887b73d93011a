use Rattle.std.proofs.Common.{refl}
use Rattle.hf_read.proofs.Opened.{reads}
use Rattle.hf_read.proofs.refused.tables_of_groups_are_refused.Goals as goal

pub returns-clause-framing : goal.returns-clause-framing
unfolding reads
returns-clause-framing c = refl

pub returns-clause-short : goal.returns-clause-short
unfolding reads
returns-clause-short c = refl

pub returns-clause-no_entity : goal.returns-clause-no_entity
unfolding reads
returns-clause-no_entity c = refl

pub returns-clause-too_large : goal.returns-clause-too_large
unfolding reads
returns-clause-too_large c = refl

pub returns-clause-not_too_large : goal.returns-clause-not_too_large
unfolding reads
returns-clause-not_too_large c = refl

pub returns-clause-second_group : goal.returns-clause-second_group
unfolding reads
returns-clause-second_group c = refl

pub returns-clause-other_group : goal.returns-clause-other_group
unfolding reads
returns-clause-other_group c = refl
