use Rattle.std.proofs.Common.{◌≡◌, ◌/◌, ◌%◌, ◌<◌, refl, arith}
use Rattle.std.proofs.Math.Nat.{mod-eq_of_lt}
use Rattle.hf_base.specs.Number.{num}
use Rattle.hf_loc.proofs.entry.narrow_place.Goals as goal

pub returns : goal.returns
unfolding num
returns c =
    let byte : c.args.method < 256 = omega arith in
    let high : c.args.method / 256 % 256 ≡ 0 = omega arith in
    rw (c.be_put.ensures, high, mod-eq_of_lt byte) refl
