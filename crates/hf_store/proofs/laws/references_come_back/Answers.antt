use Rattle.hf_store.proofs.References.{boxes_are_written, references_come_back, references_once}
use Rattle.hf_store.proofs.laws.references_come_back.Goals as goal

pub returns : goal.returns
returns c = record { written = boxes_are_written; back = references_come_back; once = references_once }
