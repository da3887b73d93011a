use Rattle.std.proofs.Common.{refl}
use Rattle.hf_read.proofs.Opened.{reads}
use Rattle.hf_read.proofs.order.records_come_in_order.Goals as goal

pub returns-clause-short_hdlr : goal.returns-clause-short_hdlr
unfolding reads
returns-clause-short_hdlr c = refl

pub returns-clause-handler : goal.returns-clause-handler
unfolding reads
returns-clause-handler c = refl

pub returns-clause-pitm_version : goal.returns-clause-pitm_version
unfolding reads
returns-clause-pitm_version c = refl

pub returns-clause-iinf_version : goal.returns-clause-iinf_version
unfolding reads
returns-clause-iinf_version c = refl

pub returns-clause-iinf_framing : goal.returns-clause-iinf_framing
unfolding reads
returns-clause-iinf_framing c = refl

pub returns-clause-count : goal.returns-clause-count
unfolding reads
returns-clause-count c = refl

pub returns-clause-first_entry : goal.returns-clause-first_entry
unfolding reads
returns-clause-first_entry c = refl

pub returns-clause-infe_version : goal.returns-clause-infe_version
unfolding reads
returns-clause-infe_version c = refl

pub returns-clause-short_infe : goal.returns-clause-short_infe
unfolding reads
returns-clause-short_infe c = refl

pub returns-clause-zero_id : goal.returns-clause-zero_id
unfolding reads
returns-clause-zero_id c = refl

pub returns-clause-protected : goal.returns-clause-protected
unfolding reads
returns-clause-protected c = refl

pub returns-clause-second_entry : goal.returns-clause-second_entry
unfolding reads
returns-clause-second_entry c = refl

pub returns-clause-primary : goal.returns-clause-primary
unfolding reads
returns-clause-primary c = refl
