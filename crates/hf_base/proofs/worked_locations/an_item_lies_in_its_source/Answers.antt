use Rattle.std.proofs.Common.{refl, inl}
use Rattle.hf_base.specs.WorkedLocations.{extent}
use Rattle.hf_base.proofs.worked_locations.an_item_lies_in_its_source.Goals as goal

pub returns : goal.returns
returns c = (extent 0 1, inl refl, refl, refl)
