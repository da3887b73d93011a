use Rattle.hf_order.proofs.Walks.{same_nodes}
use Rattle.hf_order.proofs.laws.orders_have_the_same_nodes.Goals as goal

pub returns : goal.returns
returns c = same_nodes
