use Rattle.hf_worked.proofs.RefusedStores.{refused_zero_id, refused_ids_of_one, refused_primary_of_none, refused_id_of_five_bytes}
use Rattle.hf_worked.proofs.broken.bad_ids_are_refused.Goals as goal

pub returns : goal.returns
returns c = record { not_zero_id = refused_zero_id; not_ids_of_one = refused_ids_of_one; not_primary_of_none = refused_primary_of_none; not_id_of_five_bytes = refused_id_of_five_bytes }
