use Rattle.std.proofs.Common.{List, ◌++◌, arith}
use Rattle.std.specs.List.{flat_map}
use Rattle.hf_prop.specs.declared.assoc.Pick.{Pick}
use Rattle.hf_read.specs.Kept.{held_at}
use Rattle.hf_read.proofs.Gathered.{all_taken}
use Rattle.hf_read.proofs.properties.add_picks.Goals as goal

pub returns : goal.returns
returns c =
    all_taken (λ (picks : List Pick). c.args.held.now ++ flat_map (held_at c.args.props.now) picks) c.args.picks.now c.loop-pick.pick-index c.loop-pick.held
    (omega (arith, c.loop-pick-test.false, c.loop-pick.auto.pick-index-end)) c.loop-pick.invariant
