use Rattle.hf_plan.proofs.Large.{longest_narrow, shortest_wide, none_fits}
use Rattle.hf_plan.proofs.worked.widths_change_at_4_gib.Goals as goal

pub returns : goal.returns
returns c = record { narrow = longest_narrow; wide = shortest_wide; without_bytes = none_fits }
