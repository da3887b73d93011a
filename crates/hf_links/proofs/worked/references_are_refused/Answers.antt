use Rattle.std.proofs.Common.{refl}
use Rattle.hf_base.specs.Number.{number}
use Rattle.hf_base.specs.Reading.{front, front_full, times}
use Rattle.hf_box.specs.Framing.{cut, box_at, frames_within}
use Rattle.hf_box.specs.Tables.{boxes_from}
use Rattle.hf_links.specs.Iref.{ref_box_at, with_ref_box, iref_at}
use Rattle.hf_links.specs.Worked.{cut_box, short_count, short_ids, three_bytes, version_2}
use Rattle.hf_links.proofs.worked.references_are_refused.Goals as goal

pub returns-clause-head : goal.returns-clause-head
unfolding three_bytes iref_at with_ref_box ref_box_at boxes_from frames_within box_at cut front front_full times number
returns-clause-head c = refl

pub returns-clause-version : goal.returns-clause-version
unfolding version_2 iref_at with_ref_box ref_box_at boxes_from frames_within box_at cut front front_full times number
returns-clause-version c = refl

pub returns-clause-framing : goal.returns-clause-framing
unfolding cut_box iref_at with_ref_box ref_box_at boxes_from frames_within box_at cut front front_full times number
returns-clause-framing c = refl

pub returns-clause-count : goal.returns-clause-count
unfolding short_count iref_at with_ref_box ref_box_at boxes_from frames_within box_at cut front front_full times number
returns-clause-count c = refl

pub returns-clause-ids : goal.returns-clause-ids
unfolding short_ids iref_at with_ref_box ref_box_at boxes_from frames_within box_at cut front front_full times number
returns-clause-ids c = refl
