use Rattle.std.proofs.Common.{refl}
use Rattle.hf_read.specs.WorkedFiles.{file_parted}
use Rattle.hf_read.specs.WorkedStores.{store_parted}
use Rattle.hf_read.proofs.Opened.{reads}
use Rattle.hf_read.proofs.worked.places_are_read.Goals as goal

pub returns : goal.returns
unfolding reads file_parted store_parted
returns c = record { parted = refl }
