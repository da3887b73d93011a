use Rattle.std.proofs.Common.{refl}
use Rattle.hf_base.specs.Number.{num, number}
use Rattle.hf_base.specs.Reading.{front, front_full, times}
use Rattle.hf_box.specs.Framing.{cut, box_at, frames_within}
use Rattle.hf_box.specs.Head.{box, box_head}
use Rattle.hf_box.specs.Tables.{boxes_from}
use Rattle.hf_links.specs.Grpl.{group_at, with_group, grpl_at, group_body, grpl_body}
use Rattle.hf_links.specs.Worked.{groups_box, no_groups}
use Rattle.hf_links.proofs.worked.groups_are_read.Goals as goal

pub returns-clause-two : goal.returns-clause-two
unfolding groups_box grpl_at with_group group_at boxes_from frames_within box_at cut front front_full times number
returns-clause-two c = refl

pub returns-clause-none : goal.returns-clause-none
unfolding no_groups grpl_at with_group group_at boxes_from frames_within box_at cut front front_full times number
returns-clause-none c = refl

pub returns-clause-written : goal.returns-clause-written
unfolding groups_box num box box_head group_body grpl_body
returns-clause-written c = refl
