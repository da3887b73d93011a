use Rattle.hf_worked.proofs.KeptLimits.{valid_greatest_minor, valid_greatest_id, valid_greatest_group, valid_least_bytes}
use Rattle.hf_worked.proofs.limits.widths_are_kept.Goals as goal

pub returns : goal.returns
returns c = record { minor = valid_greatest_minor; id = valid_greatest_id; group = valid_greatest_group; bytes = valid_least_bytes }
