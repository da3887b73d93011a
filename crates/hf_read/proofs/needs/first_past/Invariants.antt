use Rattle.std.proofs.Common.{◌≡◌, find, take}
use Rattle.hf_read.proofs.LeastLaws.{stands, passes}
use Rattle.hf_prop.specs.declared.assoc.Assoc.{Assoc}
use Rattle.hf_read.proofs.needs.first_past.Given as goal

abbrev pub invariant-loop-assoc : goal.invariant-loop-assoc
invariant-loop-assoc l = l.least ≡ find (stands (λ (a : Assoc). a.item) (passes l.props) (take l.assoc-index l.assocs)) l.ids
