use Rattle.hf_order.proofs.Walks.{walks_end}
use Rattle.hf_order.proofs.laws.walks_from_an_order_end.Goals as goal

pub returns : goal.returns
returns c = walks_end
