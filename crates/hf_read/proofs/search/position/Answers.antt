use Rattle.hf_read.proofs.SearchLaws.{found_there, not_there}
use Rattle.hf_read.proofs.search.position.Goals as goal

pub returns-in-Ok-clause-found : goal.returns-in-Ok-clause-found
returns-in-Ok-clause-found c = (found_there c.args.ids.now c.args.id c.in-Ok.at c.requires c.in-Ok.ensures.position).1

pub returns-in-Err-clause-missing : goal.returns-in-Err-clause-missing
returns-in-Err-clause-missing c = not_there c.args.ids.now c.args.id c.in-Err.field-0 c.requires c.in-Err.ensures.position
