use Rattle.hf_base.proofs.ChainLaws.{one_list}
use Rattle.hf_base.proofs.location_laws.each_item_has_one_list_of_bytes.Goals as goal

pub returns : goal.returns
returns c = λ F idat items r fine is. one_list F idat items r fine is
