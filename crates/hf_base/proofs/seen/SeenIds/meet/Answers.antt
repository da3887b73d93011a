use Rattle.hf_base.proofs.Meeting.{met_more}
use Rattle.hf_base.proofs.seen.SeenIds.meet.Goals as goal

pub returns-clause-met : goal.returns-clause-met
returns-clause-met c = λ other. rw (← c.self.view_is) (met_more c.args.id other c.self.inside.ids.keys c.insert.new.self.keys (c.in_ok-insert.ensures.updates.0 other))
