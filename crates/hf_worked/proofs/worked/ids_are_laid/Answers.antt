use Rattle.hf_worked.proofs.LaidFiles.{laid_one_picture, laid_one_empty_item, laid_greatest_narrow_id, laid_least_wide_id, laid_two_widths}
use Rattle.hf_worked.proofs.worked.ids_are_laid.Goals as goal

pub returns : goal.returns
returns c = record { picture = laid_one_picture; no_bytes = laid_one_empty_item; narrow = laid_greatest_narrow_id; wide = laid_least_wide_id; both = laid_two_widths }
