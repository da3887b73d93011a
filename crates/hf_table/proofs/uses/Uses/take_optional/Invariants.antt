use Rattle.std.proofs.Common.{take}
use Rattle.hf_table.specs.Held.{optional_of}
use Rattle.hf_table.specs.Uses.{Gains}
use Rattle.hf_table.proofs.uses.Uses.take_optional.Given as goal

abbrev pub invariant-loop-held : goal.invariant-loop-held
invariant-loop-held l = Gains l.self (optional_of l.kind (take l.held-index l.props)) l.initial.self
