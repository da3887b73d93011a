use Rattle.std.proofs.Common.{Ok, Err}
use Rattle.std.proofs.lemmas.List.Sorted.{searched}
use Rattle.hf_base.proofs.Rising.{rises_to}
use Rattle.hf_extent.proofs.PlaceLaws.{place_found, place_missing}
use Rattle.hf_extent.proofs.sources.place.Goals as goal

pub returns-in-Ok-clause-value : goal.returns-in-Ok-clause-value
returns-in-Ok-clause-value c = place_found c.args.ids.now c.args.id c.in-Ok.at c.requires (searched c.args.ids.now c.args.id (Ok c.in-Ok.at) c.in-Ok.ensures.position (rises_to c.args.ids.now c.requires))

pub returns-in-Err-clause-value : goal.returns-in-Err-clause-value
returns-in-Err-clause-value c = place_missing c.args.ids.now c.args.id c.in-Err.field-0 (searched c.args.ids.now c.args.id (Err c.in-Err.field-0) c.in-Err.ensures.position (rises_to c.args.ids.now c.requires))
