use Rattle.std.proofs.Common.{◌≡◌, take}
use Rattle.hf_store.proofs.store.build.clone_of.Given as goal

abbrev pub invariant-loop-element : goal.invariant-loop-element
invariant-loop-element g l = l.elements.items ≡ take l.element-index l.list
