use Rattle.hf_loc.proofs.FrontLemmas.{index_none, index_some}
use Rattle.hf_loc.proofs.fields.front_index.Goals as goal

pub returns-in-Zero : goal.returns-in-Zero
returns-in-Zero c = rw c.in-Zero.is (index_none c.args.short c.args.bytes.now)

pub returns : goal.returns
returns c = index_some c.args.width c.args.short c.args.bytes.now c.front_number.result c.in_default.not-Zero c.front_number.ensures
