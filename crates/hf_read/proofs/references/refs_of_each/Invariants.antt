use Rattle.std.proofs.Common.{◌≡◌, map, take}
use Rattle.hf_read.specs.Kept.{kept_refs as kept}
use Rattle.hf_read.specs.References.{seen}
use Rattle.hf_read.proofs.references.refs_of_each.Given as goal

abbrev pub invariant-loop-id : goal.invariant-loop-id
invariant-loop-id l = l.lists.items ≡ map (kept l.ids (seen l.boxes)) (take l.id-index l.ids)
