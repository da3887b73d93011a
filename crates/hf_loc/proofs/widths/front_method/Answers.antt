use Rattle.hf_loc.proofs.FrontLemmas.{front_none}
use Rattle.hf_loc.proofs.widths.front_method.Goals as goal

pub returns : goal.returns
returns c = rw c.if-stated.false (front_none c.args.short c.args.bytes.now)
