use Rattle.hf_derived.proofs.Places.{not_missing}
use Rattle.hf_derived.proofs.cycle.place_of.Goals as goal

pub unreachable-requires : goal.unreachable-requires
unreachable-requires c = not_missing c.args.ids.now c.args.id c.in-Err.field-0 c.requires.rises c.requires.among c.in-Err.ensures.position
