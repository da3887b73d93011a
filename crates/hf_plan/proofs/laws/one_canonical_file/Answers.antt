use Rattle.hf_plan.proofs.OneFile.{has_canon, one_canon}
use Rattle.hf_plan.proofs.laws.one_canonical_file.Goals as goal

pub returns : goal.returns
returns c = record { there = has_canon; one = one_canon }
