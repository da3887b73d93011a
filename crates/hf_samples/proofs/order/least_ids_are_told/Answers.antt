use Rattle.std.proofs.Common.{refl}
use Rattle.hf_read.proofs.Opened.{reads}
use Rattle.hf_samples.specs.OrderOfIds.{least_ids}
use Rattle.hf_samples.proofs.order.least_ids_are_told.Goals as goal

pub returns : goal.returns
unfolding reads least_ids
returns c = record { least = refl }
