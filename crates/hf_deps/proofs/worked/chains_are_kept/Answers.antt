use Rattle.std.proofs.Common.{refl}
use Rattle.hf_worked.specs.WorkedStores.{photograph}
use Rattle.hf_deps.specs.Kept.{keeping, kept_ids}
use Rattle.hf_deps.specs.Reach.{grown}
use Rattle.hf_deps.specs.WorkedRedactions.{described_chain}
use Rattle.hf_deps.proofs.worked.chains_are_kept.Goals as goal

pub returns : goal.returns
unfolding described_chain photograph keeping kept_ids grown
returns c = record { all = refl; bare = refl; photograph = refl; bare_photograph = refl }
