use Rattle.std.proofs.Common.{take}
use Rattle.hf_table.specs.Held.{of_kind}
use Rattle.hf_table.specs.Uses.{Gains}
use Rattle.hf_table.proofs.uses.Uses.take_kind.Given as goal

abbrev pub invariant-loop-held : goal.invariant-loop-held
invariant-loop-held l = Gains l.self (of_kind l.kind (take l.held-index l.props)) l.initial.self
