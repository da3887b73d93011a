use Rattle.hf_worked.proofs.RefusedStores.{refused_references_fall, refused_references_twice, refused_iloc_reference, refused_dangling_reference, refused_empty_reference, refused_reference_type_of_five_bytes}
use Rattle.hf_worked.proofs.broken.bad_references_are_refused.Goals as goal

pub returns : goal.returns
returns c = record { not_references_fall = refused_references_fall; not_references_twice = refused_references_twice; not_iloc_reference = refused_iloc_reference; not_dangling_reference = refused_dangling_reference; not_empty_reference = refused_empty_reference; not_reference_type_of_five_bytes = refused_reference_type_of_five_bytes }
