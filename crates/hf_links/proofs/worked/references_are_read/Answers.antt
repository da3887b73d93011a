use Rattle.std.proofs.Common.{refl}
use Rattle.hf_base.specs.Number.{num, number}
use Rattle.hf_base.specs.Reading.{front, front_full, times}
use Rattle.hf_box.specs.Framing.{cut, box_at, frames_within}
use Rattle.hf_box.specs.Head.{box, box_head}
use Rattle.hf_box.specs.Tables.{boxes_from}
use Rattle.hf_links.specs.Iref.{ref_box_at, with_ref_box, iref_at, reference_body, iref_body}
use Rattle.hf_links.specs.Worked.{free_bytes, narrow_lists, no_lists, wide_lists}
use Rattle.hf_links.proofs.worked.references_are_read.Goals as goal

pub returns-clause-narrow : goal.returns-clause-narrow
unfolding narrow_lists iref_at with_ref_box ref_box_at boxes_from frames_within box_at cut front front_full times number
returns-clause-narrow c = refl

pub returns-clause-wide : goal.returns-clause-wide
unfolding wide_lists iref_at with_ref_box ref_box_at boxes_from frames_within box_at cut front front_full times number
returns-clause-wide c = refl

pub returns-clause-free : goal.returns-clause-free
unfolding free_bytes iref_at with_ref_box ref_box_at boxes_from frames_within box_at cut front front_full times number
returns-clause-free c = refl

pub returns-clause-none : goal.returns-clause-none
unfolding no_lists iref_at with_ref_box ref_box_at boxes_from frames_within box_at cut front front_full times number
returns-clause-none c = refl

pub returns-clause-written : goal.returns-clause-written
unfolding narrow_lists num box box_head reference_body iref_body
returns-clause-written c = refl

pub returns-clause-written_wide : goal.returns-clause-written_wide
unfolding wide_lists num box box_head reference_body iref_body
returns-clause-written_wide c = refl
