use Rattle.std.proofs.Common.{refl}
use Rattle.hf_base.specs.Entries.{entries_from}
use Rattle.hf_base.specs.Number.{number}
use Rattle.hf_base.specs.Reading.{front, front_full, times}
use Rattle.hf_box.specs.Framing.{frames_within, box_at, cut}
use Rattle.hf_box.specs.Tables.{boxes_from}
use Rattle.hf_prop.specs.Ipma.{pick_at, assoc_at, entry_at, counted_at, with_ipma}
use Rattle.hf_prop.specs.Iprp.{at_most_one, props_at, iprp_within}
use Rattle.hf_prop.proofs.laws.worked_boxes_are_refused.Goals as goal

pub returns-clause-framing : goal.returns-clause-framing
unfolding frames_within box_at cut front front_full times number entries_from boxes_from at_most_one props_at iprp_within pick_at assoc_at entry_at counted_at with_ipma
returns-clause-framing c = refl

pub returns-clause-second_ipco : goal.returns-clause-second_ipco
unfolding frames_within box_at cut front front_full times number entries_from boxes_from at_most_one props_at iprp_within pick_at assoc_at entry_at counted_at with_ipma
returns-clause-second_ipco c = refl

pub returns-clause-ipco : goal.returns-clause-ipco
unfolding frames_within box_at cut front front_full times number entries_from boxes_from at_most_one props_at iprp_within pick_at assoc_at entry_at counted_at with_ipma
returns-clause-ipco c = refl

pub returns-clause-no_flags : goal.returns-clause-no_flags
unfolding frames_within box_at cut front front_full times number entries_from boxes_from at_most_one props_at iprp_within pick_at assoc_at entry_at counted_at with_ipma
returns-clause-no_flags c = refl

pub returns-clause-version : goal.returns-clause-version
unfolding frames_within box_at cut front front_full times number entries_from boxes_from at_most_one props_at iprp_within pick_at assoc_at entry_at counted_at with_ipma
returns-clause-version c = refl

pub returns-clause-no_count : goal.returns-clause-no_count
unfolding frames_within box_at cut front front_full times number entries_from boxes_from at_most_one props_at iprp_within pick_at assoc_at entry_at counted_at with_ipma
returns-clause-no_count c = refl

pub returns-clause-no_id : goal.returns-clause-no_id
unfolding frames_within box_at cut front front_full times number entries_from boxes_from at_most_one props_at iprp_within pick_at assoc_at entry_at counted_at with_ipma
returns-clause-no_id c = refl

pub returns-clause-no_associations : goal.returns-clause-no_associations
unfolding frames_within box_at cut front front_full times number entries_from boxes_from at_most_one props_at iprp_within pick_at assoc_at entry_at counted_at with_ipma
returns-clause-no_associations c = refl

pub returns-clause-rows : goal.returns-clause-rows
unfolding frames_within box_at cut front front_full times number entries_from boxes_from at_most_one props_at iprp_within pick_at assoc_at entry_at counted_at with_ipma
returns-clause-rows c = refl

pub returns-clause-short_association : goal.returns-clause-short_association
unfolding frames_within box_at cut front front_full times number entries_from boxes_from at_most_one props_at iprp_within pick_at assoc_at entry_at counted_at with_ipma
returns-clause-short_association c = refl

pub returns-clause-second_entry : goal.returns-clause-second_entry
unfolding frames_within box_at cut front front_full times number entries_from boxes_from at_most_one props_at iprp_within pick_at assoc_at entry_at counted_at with_ipma
returns-clause-second_entry c = refl
