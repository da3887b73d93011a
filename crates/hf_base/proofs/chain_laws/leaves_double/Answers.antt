use Rattle.hf_base.proofs.DoublingLaws.{item_leaves, all_leaves}
use Rattle.hf_base.proofs.chain_laws.leaves_double.Goals as goal

pub returns : goal.returns
returns c = record { item = λ inner long n k less. item_leaves inner long n k less; all = λ inner long n. all_leaves inner long n }
