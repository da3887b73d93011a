use Rattle.hf_worked.proofs.KeptLimits.{items_are_kept, props_are_kept, kinds_are_kept, brands_are_kept}
use Rattle.hf_worked.proofs.limits.counts_are_kept.Goals as goal

pub returns : goal.returns
returns c = record { items = items_are_kept; props = props_are_kept; kinds = kinds_are_kept; brands = brands_are_kept }
