use Rattle.std.proofs.Common.{refl}
use Rattle.hf_base.specs.Number.{number}
use Rattle.hf_base.specs.Reading.{front, times}
use Rattle.hf_links.specs.Iref.{ref_box_at}
use Rattle.hf_links.specs.Worked.{cut_link, one_link}
use Rattle.hf_links.proofs.worked.references_are_counted.Goals as goal

pub returns-clause-last : goal.returns-clause-last
unfolding one_link ref_box_at front times number
returns-clause-last c = refl

pub returns-clause-one_more : goal.returns-clause-one_more
unfolding one_link ref_box_at front times number
returns-clause-one_more c = refl

pub returns-clause-ids : goal.returns-clause-ids
unfolding cut_link ref_box_at front times number
returns-clause-ids c = refl

pub returns-clause-first : goal.returns-clause-first
unfolding cut_link ref_box_at front times number
returns-clause-first c = refl
