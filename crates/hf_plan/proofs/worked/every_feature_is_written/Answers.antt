use Rattle.hf_plan.proofs.CanonicalFiles.{canon_every_feature, canon_every_feature_wide}
use Rattle.hf_plan.proofs.worked.every_feature_is_written.Goals as goal

pub returns : goal.returns
returns c = record { narrow = canon_every_feature; wide = canon_every_feature_wide }
