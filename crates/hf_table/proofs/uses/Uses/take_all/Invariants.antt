use Rattle.std.proofs.Common.{take}
use Rattle.hf_table.specs.Held.{props_in}
use Rattle.hf_table.specs.Uses.{Gains}
use Rattle.hf_table.proofs.uses.Uses.take_all.Given as goal

abbrev pub invariant-loop-held : goal.invariant-loop-held
invariant-loop-held l = Gains l.self (props_in (take l.held-index l.props)) l.initial.self
