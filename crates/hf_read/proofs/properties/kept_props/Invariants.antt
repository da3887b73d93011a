use Rattle.std.proofs.Common.{◌≡◌, map, take}
use Rattle.hf_read.proofs.AssocLaws.{with_assocs}
use Rattle.hf_read.proofs.properties.kept_props.Given as goal

abbrev pub invariant-loop-assoc : goal.invariant-loop-assoc
invariant-loop-assoc l = l.lists.items ≡ map (with_assocs l.iprp.props (take l.assoc-index l.iprp.assocs)) l.ids
