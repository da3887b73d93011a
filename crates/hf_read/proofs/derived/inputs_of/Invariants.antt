use Rattle.std.proofs.Common.{◌≡◌, drop}
use Rattle.hf_store.specs.Derived.{inputs}
use Rattle.hf_read.proofs.derived.inputs_of.Given as goal

abbrev pub invariant-loop-list : goal.invariant-loop-list
invariant-loop-list l = inputs l.refs ≡ inputs (drop l.list-index l.refs)
