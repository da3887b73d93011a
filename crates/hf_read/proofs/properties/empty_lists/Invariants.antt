use Rattle.std.proofs.Common.{◌≡◌, map, take, []}
use Rattle.hf_read.proofs.properties.empty_lists.Given as goal

abbrev pub invariant-loop : goal.invariant-loop
invariant-loop l = l.lists.items ≡ map (λ id. []) (take l.index l.ids)
