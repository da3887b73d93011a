use Rattle.std.proofs.Common.{◌≡◌, ℕ, ◌++◌, map, take}
use Rattle.hf_deps.proofs.pairs.add_needs.Given as goal

abbrev pub invariant-loop-to : goal.invariant-loop-to
invariant-loop-to l = l.pairs.items ≡ l.fn.pairs.items ++ map (λ (to : ℕ). (to, l.id)) (take l.to-index l.ids)
