use Rattle.hf_worked.proofs.LaidFiles.{laid_every_feature, laid_every_feature_wide}
use Rattle.hf_worked.proofs.worked.every_feature_is_laid.Goals as goal

pub returns : goal.returns
returns c = record { narrow = laid_every_feature; wide = laid_every_feature_wide }
