use Rattle.hf_loc.proofs.FrontLemmas.{front_none}
use Rattle.hf_loc.proofs.widths.front_number.Goals as goal

pub returns-in-Zero : goal.returns-in-Zero
returns-in-Zero c = rw c.in-Zero.is (front_none c.args.short c.args.bytes.now)
