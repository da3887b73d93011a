use Rattle.hf_worked.proofs.ValidStores.{valid_turned_picture, valid_sized_picture, valid_properties_127, valid_properties_128, valid_properties_300}
use Rattle.hf_worked.proofs.worked.properties_are_valid.Goals as goal

pub returns : goal.returns
returns c = record { turned = valid_turned_picture; sized = valid_sized_picture; seven_bits = valid_properties_127; one_more = valid_properties_128; many = valid_properties_300 }
