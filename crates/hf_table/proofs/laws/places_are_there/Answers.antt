use Rattle.hf_table.proofs.Unique.{places_are_there}
use Rattle.hf_table.proofs.laws.places_are_there.Goals as goal

pub returns : goal.returns
returns c = places_are_there
