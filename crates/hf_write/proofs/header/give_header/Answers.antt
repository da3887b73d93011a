use Rattle.std.proofs.Common.{ap, ◌∙◌}
use Rattle.hf_box.specs.Head.{box_head}
use Rattle.hf_desk.proofs.Paging.{gives_as}
use Rattle.hf_write.proofs.header.give_header.Goals as goal

pub returns-clause-gives : goal.returns-clause-gives
returns-clause-gives g c = λ body e. gives_as (ap (box_head c.args.kind) (c.body_of.ensures.value body e)) c.give_head.ensures

pub returns-clause-creating : goal.returns-clause-creating
returns-clause-creating g c = c.give_head.ensures.writes.only.creating ∙ c.requires.creating
