use Rattle.hf_plan.proofs.CanonicalFiles.{canon_turned_picture, canon_sized_picture, canon_properties_127, canon_properties_128, canon_properties_300}
use Rattle.hf_plan.proofs.worked.properties_are_written.Goals as goal

pub returns : goal.returns
returns c = record { turned = canon_turned_picture; sized = canon_sized_picture; seven_bits = canon_properties_127; one_more = canon_properties_128; many = canon_properties_300 }
