use Rattle.std.proofs.Common.{take}
use Rattle.hf_table.specs.Held.{props_of_others}
use Rattle.hf_table.specs.Uses.{Gains}
use Rattle.hf_table.proofs.uses.Uses.take_others.Given as goal

abbrev pub invariant-loop-item : goal.invariant-loop-item
invariant-loop-item g l = Gains l.self (props_of_others g.H.Holder.id_of g.H.Holder.props_of l.ids (take l.item-index l.items)) l.initial.self
