use Rattle.std.proofs.Common.{◌<◌, refl, arith}
use Rattle.std.proofs.Math.Nat.{mod-eq_of_lt}
use Rattle.hf_base.specs.Number.{num}
use Rattle.hf_write.proofs.iloc.wide_front.Goals as goal

pub returns : goal.returns
unfolding num
returns c =
    let byte : c.args.widths < 256 = omega arith in
    rw (c.be_put.ensures, mod-eq_of_lt byte) refl
