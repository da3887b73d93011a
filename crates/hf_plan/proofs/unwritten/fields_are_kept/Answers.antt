use Rattle.hf_plan.proofs.NotWritten.{no_minor, no_id, no_primary, no_reference, no_version, no_flags, no_group_id, no_entity}
use Rattle.hf_plan.proofs.unwritten.fields_are_kept.Goals as goal

pub returns : goal.returns
returns c = record { minor = no_minor; id = no_id; primary = no_primary; reference = no_reference; version = no_version; flags = no_flags; group_id = no_group_id; entity = no_entity }
