use Rattle.std.proofs.Common.{take, ◌+◌, ◌≤◌}
use Rattle.std.specs.Map.{keys_of}
use Rattle.hf_table.specs.Held.{props_in}
use Rattle.hf_table.specs.Table.{size_sum}
use Rattle.hf_table.specs.Uses.{Gains}
use Rattle.hf_table.proofs.uses.Uses.add_all.Given as goal

abbrev pub invariant-loop-i : goal.invariant-loop-i
invariant-loop-i l = record {
  gains : Gains l.initial.self (props_in (take l.i l.props)) l.self;
  bytes : size_sum (keys_of l.self) ≤ size_sum (keys_of l.initial.self) + size_sum (props_in (take l.i l.props));
}
