use Rattle.hf_base.proofs.ChainLaws.{turns}
use Rattle.hf_base.proofs.location_laws.items_that_lie_in_each_other_are_endless.Goals as goal

pub returns : goal.returns
returns c = λ items r s there back. turns items r s there back
