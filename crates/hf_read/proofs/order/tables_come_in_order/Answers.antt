use Rattle.std.proofs.Common.{refl}
use Rattle.hf_read.proofs.Opened.{reads}
use Rattle.hf_read.proofs.order.tables_come_in_order.Goals as goal

pub returns-clause-iloc_version : goal.returns-clause-iloc_version
unfolding reads
returns-clause-iloc_version c = refl

pub returns-clause-iloc_fields : goal.returns-clause-iloc_fields
unfolding reads
returns-clause-iloc_fields c = refl

pub returns-clause-iloc_widths : goal.returns-clause-iloc_widths
unfolding reads
returns-clause-iloc_widths c = refl

pub returns-clause-iloc_parts : goal.returns-clause-iloc_parts
unfolding reads
returns-clause-iloc_parts c = refl

pub returns-clause-iloc_ids : goal.returns-clause-iloc_ids
unfolding reads
returns-clause-iloc_ids c = refl

pub returns-clause-iref_version : goal.returns-clause-iref_version
unfolding reads
returns-clause-iref_version c = refl

pub returns-clause-iref_framing : goal.returns-clause-iref_framing
unfolding reads
returns-clause-iref_framing c = refl

pub returns-clause-references : goal.returns-clause-references
unfolding reads
returns-clause-references c = refl

pub returns-clause-needs : goal.returns-clause-needs
unfolding reads
returns-clause-needs c = refl

pub returns-clause-iprp_framing : goal.returns-clause-iprp_framing
unfolding reads
returns-clause-iprp_framing c = refl

pub returns-clause-second_ipco : goal.returns-clause-second_ipco
unfolding reads
returns-clause-second_ipco c = refl

pub returns-clause-ipco_framing : goal.returns-clause-ipco_framing
unfolding reads
returns-clause-ipco_framing c = refl

pub returns-clause-first_ipma : goal.returns-clause-first_ipma
unfolding reads
returns-clause-first_ipma c = refl

pub returns-clause-ipma_version : goal.returns-clause-ipma_version
unfolding reads
returns-clause-ipma_version c = refl

pub returns-clause-associations : goal.returns-clause-associations
unfolding reads
returns-clause-associations c = refl

pub returns-clause-ipma_ids : goal.returns-clause-ipma_ids
unfolding reads
returns-clause-ipma_ids c = refl

pub returns-clause-picks : goal.returns-clause-picks
unfolding reads
returns-clause-picks c = refl

pub returns-clause-grpl_framing : goal.returns-clause-grpl_framing
unfolding reads
returns-clause-grpl_framing c = refl

pub returns-clause-entities : goal.returns-clause-entities
unfolding reads
returns-clause-entities c = refl

pub returns-clause-group_ids : goal.returns-clause-group_ids
unfolding reads
returns-clause-group_ids c = refl
