use Rattle.hf_order.proofs.Walks.{walks_start}
use Rattle.hf_order.proofs.laws.endless_walks_start_outside.Goals as goal

pub returns : goal.returns
returns c = walks_start
