use Rattle.std.proofs.Common.{refl}
use Rattle.hf_read.proofs.Opened.{reads}
use Rattle.hf_samples.specs.OrderOfTables.{bad_width_first, iloc_cut_first, location_twice_first, iref_version_first, iref_cut_first, dangling_need_first}
use Rattle.hf_samples.proofs.order.tables_come_in_order.Goals as goal

pub returns-clause-bad_width : goal.returns-clause-bad_width
unfolding reads bad_width_first
returns-clause-bad_width c = refl

pub returns-clause-iloc_cut : goal.returns-clause-iloc_cut
unfolding reads iloc_cut_first
returns-clause-iloc_cut c = refl

pub returns-clause-location_twice : goal.returns-clause-location_twice
unfolding reads location_twice_first
returns-clause-location_twice c = refl

pub returns-clause-iref_version : goal.returns-clause-iref_version
unfolding reads iref_version_first
returns-clause-iref_version c = refl

pub returns-clause-iref_cut : goal.returns-clause-iref_cut
unfolding reads iref_cut_first
returns-clause-iref_cut c = refl

pub returns-clause-dangling_need : goal.returns-clause-dangling_need
unfolding reads dangling_need_first
returns-clause-dangling_need c = refl
