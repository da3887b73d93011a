use Rattle.std.proofs.Common.{◌≡◌, take}
use Rattle.hf_base.proofs.series.Series.try_clone.Given as goal

abbrev pub invariant-loop-element : goal.invariant-loop-element
invariant-loop-element g l = (l.elements.items ≡ take l.element-index l.element-items) × (l.element-items ≡ l.fn.self)
