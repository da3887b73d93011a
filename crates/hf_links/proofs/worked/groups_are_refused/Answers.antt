use Rattle.std.proofs.Common.{refl}
use Rattle.hf_base.specs.Number.{number}
use Rattle.hf_base.specs.Reading.{front, front_full, times}
use Rattle.hf_box.specs.Framing.{cut, box_at, frames_within}
use Rattle.hf_box.specs.Tables.{boxes_from}
use Rattle.hf_links.specs.Grpl.{group_at, with_group, grpl_at}
use Rattle.hf_links.specs.Worked.{cut_groups, fewer_entities, many_entities, one_id_twice, short_entities, short_fields}
use Rattle.hf_links.proofs.worked.groups_are_refused.Goals as goal

pub returns-clause-framing : goal.returns-clause-framing
unfolding cut_groups grpl_at with_group group_at boxes_from frames_within box_at cut front front_full times number
returns-clause-framing c = refl

pub returns-clause-fields : goal.returns-clause-fields
unfolding short_fields grpl_at with_group group_at boxes_from frames_within box_at cut front front_full times number
returns-clause-fields c = refl

pub returns-clause-entities : goal.returns-clause-entities
unfolding short_entities grpl_at with_group group_at boxes_from frames_within box_at cut front front_full times number
returns-clause-entities c = refl

pub returns-clause-twice : goal.returns-clause-twice
unfolding one_id_twice grpl_at with_group group_at boxes_from frames_within box_at cut front front_full times number
returns-clause-twice c = refl

pub returns-clause-rows : goal.returns-clause-rows
unfolding many_entities grpl_at with_group group_at boxes_from frames_within box_at cut front front_full times number
returns-clause-rows c = refl

pub returns-clause-fewer : goal.returns-clause-fewer
unfolding fewer_entities grpl_at with_group group_at boxes_from frames_within box_at cut front front_full times number
returns-clause-fewer c = refl
