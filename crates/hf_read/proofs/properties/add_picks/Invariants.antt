use Rattle.std.proofs.Common.{◌≡◌, ◌++◌, take}
use Rattle.std.specs.List.{flat_map}
use Rattle.hf_read.specs.Kept.{held_at}
use Rattle.hf_read.proofs.properties.add_picks.Given as goal

abbrev pub invariant-loop-pick : goal.invariant-loop-pick
invariant-loop-pick l = l.held ≡ l.fn.held ++ flat_map (held_at l.props) (take l.pick-index l.picks)
