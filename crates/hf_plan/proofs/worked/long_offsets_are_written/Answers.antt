use Rattle.hf_plan.proofs.LongOffsets.{long_one_picture, long_every_feature, long_every_feature_wide}
use Rattle.hf_plan.proofs.worked.long_offsets_are_written.Goals as goal

pub returns : goal.returns
returns c = record { picture = long_one_picture; narrow = long_every_feature; wide = long_every_feature_wide }
