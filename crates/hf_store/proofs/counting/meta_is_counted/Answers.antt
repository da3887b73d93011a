use Rattle.hf_store.proofs.MetaCounts.{meta_is_counted, long_meta_is_counted}
use Rattle.hf_store.proofs.counting.meta_is_counted.Goals as goal

pub returns : goal.returns
returns c = record { within = meta_is_counted; long = long_meta_is_counted }
