use Rattle.std.proofs.Common.{false, refl}
use Rattle.hf_base.proofs.DoublingLaws.{few_leaves, file_there}
use Rattle.hf_base.proofs.chain_laws.short_chains_are_taken.Goals as goal

pub returns : goal.returns
returns c = λ F idat n there few. few_leaves F idat false n refl (file_there F there) refl few
