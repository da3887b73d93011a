use Rattle.hf_worked.proofs.ValidStores.{valid_every_feature, valid_every_feature_wide}
use Rattle.hf_worked.proofs.worked.every_feature_is_valid.Goals as goal

pub returns : goal.returns
returns c = record { narrow = valid_every_feature; wide = valid_every_feature_wide }
