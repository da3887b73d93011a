use Rattle.hf_edit.proofs.Coming.{metadata_has_no_props}
use Rattle.hf_edit.proofs.Untouched.{rest_stays}
use Rattle.hf_edit.proofs.laws.rest_stays.Goals as goal

pub returns : goal.returns
returns c = record { rest = rest_stays; kinds = metadata_has_no_props }
