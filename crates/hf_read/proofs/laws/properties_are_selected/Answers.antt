use Rattle.hf_read.proofs.KeptProps.{props_are_selected}
use Rattle.hf_read.proofs.laws.properties_are_selected.Goals as goal

pub returns : goal.returns
returns c = props_are_selected
