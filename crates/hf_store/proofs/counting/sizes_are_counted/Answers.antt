use Rattle.hf_store.proofs.Sizes.{sizes_are_counted, bodies_are_counted}
use Rattle.hf_store.proofs.counting.sizes_are_counted.Goals as goal

pub returns : goal.returns
returns c = record { boxes = sizes_are_counted; bodies = bodies_are_counted }
