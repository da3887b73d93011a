use Rattle.std.proofs.Common.{refl}
use Rattle.hf_base.specs.Entries.{entries_from}
use Rattle.hf_base.specs.Number.{number}
use Rattle.hf_base.specs.Reading.{front, front_full, times}
use Rattle.hf_box.specs.Framing.{frames_within, box_at, cut}
use Rattle.hf_box.specs.Tables.{boxes_from}
use Rattle.hf_prop.specs.Ipma.{pick_at, assoc_at, entry_at, counted_at, with_ipma}
use Rattle.hf_prop.specs.Iprp.{at_most_one, props_at, iprp_within}
use Rattle.hf_prop.proofs.laws.worked_boxes_are_read.Goals as goal

pub returns-clause-both_widths : goal.returns-clause-both_widths
unfolding frames_within box_at cut front front_full times number entries_from boxes_from at_most_one props_at iprp_within pick_at assoc_at entry_at counted_at with_ipma
returns-clause-both_widths c = refl

pub returns-clause-neither : goal.returns-clause-neither
unfolding frames_within box_at cut front front_full times number entries_from boxes_from at_most_one props_at iprp_within pick_at assoc_at entry_at counted_at with_ipma
returns-clause-neither c = refl

pub returns-clause-flag_two : goal.returns-clause-flag_two
unfolding frames_within box_at cut front front_full times number entries_from boxes_from at_most_one props_at iprp_within pick_at assoc_at entry_at counted_at with_ipma
returns-clause-flag_two c = refl

pub returns-clause-full_table : goal.returns-clause-full_table
unfolding frames_within box_at cut front front_full times number entries_from boxes_from at_most_one props_at iprp_within pick_at assoc_at entry_at counted_at with_ipma
returns-clause-full_table c = refl
