use Rattle.std.proofs.Common.{◌≡◌, ◌++◌, map, length}
use Rattle.hf_prop.specs.Iprp.{prop_of}
use Rattle.hf_prop.proofs.iprp.props_in.Given as goal

abbrev pub invariant-loop-view : goal.invariant-loop-view
invariant-loop-view l = l.props ++ map prop_of l.boxes ≡ map prop_of l.fn.boxes

abbrev pub decreases-loop-view : goal.decreases-loop-view
decreases-loop-view l = length l.boxes
