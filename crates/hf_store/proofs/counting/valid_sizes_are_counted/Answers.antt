use Rattle.hf_store.proofs.MetaCounts.{valid_sizes_are_counted, valid_bodies_are_counted}
use Rattle.hf_store.proofs.counting.valid_sizes_are_counted.Goals as goal

pub returns : goal.returns
returns c = record { boxes = valid_sizes_are_counted; bodies = valid_bodies_are_counted }
