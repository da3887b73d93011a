use Rattle.hf_plan.proofs.OneFile.{narrow_is_shorter, narrow_is_as_long}
use Rattle.hf_plan.proofs.laws.narrow_layout_is_shorter.Goals as goal

pub returns : goal.returns
returns c = record { shorter = narrow_is_shorter; as_long = narrow_is_as_long }
