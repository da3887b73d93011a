use Rattle.std.proofs.Common.{refl}
use Rattle.hf_read.proofs.Opened.{reads}
use Rattle.hf_read.proofs.refused.tables_of_references_are_refused.Goals as goal

pub returns-clause-short : goal.returns-clause-short
unfolding reads
returns-clause-short c = refl

pub returns-clause-version_2 : goal.returns-clause-version_2
unfolding reads
returns-clause-version_2 c = refl

pub returns-clause-version_1 : goal.returns-clause-version_1
unfolding reads
returns-clause-version_1 c = refl

pub returns-clause-framing : goal.returns-clause-framing
unfolding reads
returns-clause-framing c = refl

pub returns-clause-no_count : goal.returns-clause-no_count
unfolding reads
returns-clause-no_count c = refl

pub returns-clause-no_id : goal.returns-clause-no_id
unfolding reads
returns-clause-no_id c = refl

pub returns-clause-needed_tile : goal.returns-clause-needed_tile
unfolding reads
returns-clause-needed_tile c = refl

pub returns-clause-needed_base : goal.returns-clause-needed_base
unfolding reads
returns-clause-needed_base c = refl

pub returns-clause-needed_prem : goal.returns-clause-needed_prem
unfolding reads
returns-clause-needed_prem c = refl

pub returns-clause-not_needed : goal.returns-clause-not_needed
unfolding reads
returns-clause-not_needed c = refl

pub returns-clause-of_no_item : goal.returns-clause-of_no_item
unfolding reads
returns-clause-of_no_item c = refl
