use Rattle.hf_order.proofs.Walks.{all_in}
use Rattle.hf_order.proofs.laws.an_order_has_each_node_whose_walks_end.Goals as goal

pub returns : goal.returns
returns c = all_in
