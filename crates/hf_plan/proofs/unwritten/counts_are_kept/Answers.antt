use Rattle.hf_plan.proofs.NotWritten.{no_props, items_are_counted, references_are_counted, entities_are_counted, properties_are_numbered, lengths_fit}
use Rattle.hf_plan.proofs.unwritten.counts_are_kept.Goals as goal

pub returns : goal.returns
returns c = record { props = no_props; items = items_are_counted; references = references_are_counted; entities = entities_are_counted; numbers = properties_are_numbered; lengths = lengths_fit }
