use Rattle.hf_plan.proofs.CanonicalFiles.{canon_one_picture, canon_one_empty_item, canon_greatest_narrow_id, canon_least_wide_id, canon_two_widths}
use Rattle.hf_plan.proofs.worked.ids_are_written.Goals as goal

pub returns : goal.returns
returns c = record { picture = canon_one_picture; no_bytes = canon_one_empty_item; narrow = canon_greatest_narrow_id; wide = canon_least_wide_id; both = canon_two_widths }
