use Rattle.std.proofs.Common.{◌≡◌, ◌++◌, List, length, take}
use Rattle.std.specs.Prelude.{fold, slice_get, Some}
use Rattle.hf_prop.specs.declared.prop.Prop.{Prop}
use Rattle.hf_table.specs.Held.{props_in}
use Rattle.hf_table.specs.Making.{IsMade}
use Rattle.hf_table.specs.Numbered.{place_of}
use Rattle.hf_table.specs.Table.{with_prop}
use Rattle.hf_table.proofs.making.Making.note_all.Given as goal

abbrev pub invariant-loop-j : goal.invariant-loop-j
invariant-loop-j l = record {
  seen : l.self.seen.keys ≡ fold with_prop l.initial.self.seen.keys (props_in (take l.j l.props));
  made : (lists : List (List Prop)) (ps : List Prop) → IsMade lists ps l.initial.self → place_of lists l.i 0 ≡ length ps
      → slice_get lists l.i ≡ Some (props_in l.props) → IsMade lists (ps ++ props_in (take l.j l.props)) l.self;
}
