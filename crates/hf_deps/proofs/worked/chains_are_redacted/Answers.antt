use Rattle.std.proofs.Common.{refl}
use Rattle.hf_store.specs.Changes.{cut}
use Rattle.hf_worked.specs.WorkedStores.{photograph, photograph_bare, photograph_redacted}
use Rattle.hf_deps.specs.Kept.{keeping, kept_ids}
use Rattle.hf_deps.specs.Reach.{grown}
use Rattle.hf_deps.specs.Redacted.{redacted}
use Rattle.hf_deps.specs.WorkedRedactions.{bare_chain, described_chain, redacted_chain}
use Rattle.hf_deps.proofs.worked.chains_are_redacted.Goals as goal

pub returns : goal.returns
unfolding described_chain redacted_chain bare_chain photograph photograph_redacted photograph_bare keeping kept_ids grown redacted cut
returns c = record { all = refl; bare = refl; photograph = refl; bare_photograph = refl }
