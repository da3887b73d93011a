use Rattle.hf_base.proofs.FileChains.{chain_in_file}
use Rattle.hf_base.proofs.chain_laws.a_file_may_have_the_chain.Goals as goal

pub returns : goal.returns
returns c = λ inner long n. chain_in_file inner long n
