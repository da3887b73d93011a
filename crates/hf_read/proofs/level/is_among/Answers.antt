use Rattle.std.proofs.Common.{List, arith, false, sym}
use Rattle.hf_base.specs.declared.four.FourCc.{FourCc}
use Rattle.hf_read.specs.TopLevel.{is_among}
use Rattle.hf_read.proofs.Gathered.{all_taken}
use Rattle.hf_read.proofs.level.is_among.Goals as goal

pub returns : goal.returns
returns c =
    all_taken (λ (kinds : List FourCc). is_among kinds c.args.kind) c.args.kinds.now c.loop-k.k-index false
    (omega (arith, c.loop-k-test.false, c.loop-k.auto.k-index-end)) (sym c.loop-k.invariant)
