use Rattle.hf_worked.proofs.ValidStores.{valid_one_picture, valid_one_empty_item, valid_greatest_narrow_id, valid_least_wide_id, valid_two_widths}
use Rattle.hf_worked.proofs.worked.ids_are_valid.Goals as goal

pub returns : goal.returns
returns c = record { picture = valid_one_picture; no_bytes = valid_one_empty_item; narrow = valid_greatest_narrow_id; wide = valid_least_wide_id; both = valid_two_widths }
