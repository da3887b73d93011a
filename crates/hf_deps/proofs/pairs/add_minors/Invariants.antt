use Rattle.std.proofs.Common.{◌≡◌, ℕ, ◌++◌, map, take}
use Rattle.hf_deps.proofs.pairs.add_minors.Given as goal

abbrev pub invariant-loop-to : goal.invariant-loop-to
invariant-loop-to l = l.pairs.items ≡ l.fn.pairs.items ++ map (λ (to : ℕ). (l.id, to)) (take l.to-index l.ids)
